-- What is known of the signals that a part surely emits, where the parts after it are swept.
use Rattle.std.specs.Prelude.{◌≡◌, ◌≢◌, ℕ, Bool, true, false, cond, ◌&&◌, ◌||◌}
use Rattle.std.proofs.Common.{refl, ap, sym, ◌∙◌, inr, subst}
use Rattle.std.proofs.lemmas.Bool.{eqb-true}
use mathlib.Core.Path.{fun_ext}
use Rattle.est_kernel.specs.Bits.{bits}
use Rattle.est_kernel.specs.Term.{Name, outer, inner}
use Rattle.est_kernel.specs.View.{term_of}
use Rattle.est_kernel.specs.declared.statement.Statement.{Statement}
use Rattle.est_meaning.specs.Knowledge.{IsBelow, IsIn, KnowsLess}
use Rattle.est_meaning.specs.Signals.{Signals, no_signals, union, without, same_name}
use Rattle.est_meaning.specs.States.{term_at}
use Rattle.est_meaning.specs.Environments.{Env, verdict, with_local}
use Rattle.est_meaning.specs.declared.status.Status.{Status}
use Rattle.est_meaning.specs.declared.status.Status.TheVariants.{Present, Absent, Unknown}
use Rattle.est_meaning.specs.Views.{env_of, set_of}
use Rattle.est_meaning.specs.declared.signal_set.Env.{Env as Known}
use Rattle.est_meaning.specs.declared.signal_set.SignalSet.{SignalSet}
use Rattle.est_cells.proofs.Emitted.{sure_begun, sure_resumed}
use Rattle.est_cells.proofs.Sound.{status_steady}
use Rattle.est_cells.specs.Gates.{emitted_status}
use Rattle.est_cells.specs.Meaning.{begun, can_at, must_at, resumed, status_at}
use Rattle.est_cells.specs.Tables.{Sheet, emits, is_possible, is_sure}
use Rattle.est_net.specs.Cells.{learned}
use Rattle.est_micro.specs.Inner.Hearing.{Heard, Seen}
use Rattle.est_micro.specs.Sweeps.{told}

-- the first of two sets, and the second
pub heard_left : (a b : Signals) (e l : Env) → Heard (union a b) e l → Heard a e l
unfolding union
heard_left a b e l h n i j = h n (rw i refl) j

pub heard_right : (a b : Signals) (e l : Env) → Heard (union a b) e l → Heard b e l
unfolding union
heard_right a b e l h n i j = h n (or_true (a n) (b n) i) j
  where
    or_true : (x y : Bool) → y ≡ true → (x || y) ≡ true
    or_true true y k = refl
    or_true false y k = k

pub seen_left : (a b : Signals) (l : Env) → Seen (union a b) l → Seen a l
unfolding union
seen_left a b l h n i = h n (rw i refl)

pub seen_right : (a b : Signals) (l : Env) → Seen (union a b) l → Seen b l
unfolding union
seen_right a b l h n i = h n (or_true (a n) (b n) i)
  where
    or_true : (x y : Bool) → y ≡ true → (x || y) ≡ true
    or_true true y k = refl
    or_true false y k = k

pub heard_in : (a b : Signals) (e l : Env) → IsIn a b → Heard b e l → Heard a e l
heard_in a b e l f h n i j = h n (f n i) j

-- what is told
pub told_less : (e l : Env) (x : Signals) → KnowsLess l e → Heard x e l → KnowsLess (told l x) e
unfolding told
told_less e l x k h n = go (x n) refl (l n) refl
  where
    go : (b : Bool) → x n ≡ b → (v : Status) → l n ≡ v → IsBelow (cond b (learned v Present) v) (e n)
    go false i v j = subst (λ (z : Status). IsBelow z (e n)) j (k n)
    go true i Unknown j = inr (sym (h n i j))
    go true i Present j = subst (λ (z : Status). IsBelow z (e n)) j (k n)
    go true i Absent j = subst (λ (z : Status). IsBelow z (e n)) j (k n)

pub told_doubt : (l : Env) (x : Signals) (n : Name) → told l x n ≡ Unknown → l n ≡ Unknown
unfolding told
told_doubt l x n j = go (x n) (l n) j
  where
    go : (b : Bool) (v : Status) → cond b (learned v Present) v ≡ Unknown → v ≡ Unknown
    go false v k = k
    go true Unknown k = refl
    go true Present k = k
    go true Absent k = k

pub told_heard : (e l : Env) (x z : Signals) → Heard z e l → Heard z e (told l x)
told_heard e l x z h n i j = h n i (told_doubt l x n j)

pub told_same : (l : Env) (x : Signals) → Seen x l → told l x ≡ l
unfolding told
told_same l x h = fun_ext (λ n. go n (x n) refl (l n) refl)
  where
    go : (n : Name) (b : Bool) → x n ≡ b → (v : Status) → l n ≡ v → cond b (learned v Present) v ≡ v
    go n false i v j = refl
    go n true i Unknown j = absurd (h n i j)
    go n true i Present j = refl
    go n true i Absent j = refl

-- inside a binder
pub is_local : (s : ℕ) (n : Name) → same_name (inner s) n ≡ true → inner s ≡ n
is_local s (inner m) h = ap inner (eqb-true s m h)
is_local s (outer m) h = let z : false ≡ true = h in cc

pub heard_local : (s : ℕ) (v w : Status) (e l : Env) (x : Signals) → (x (inner s) ≡ true → v ≡ Present)
    → Heard (without s x) e l → Heard x (with_local e s v) (with_local l s w)
unfolding without with_local
heard_local s v w e l x h k n i j = go (same_name (inner s) n) refl j
  where
    go : (b : Bool) → same_name (inner s) n ≡ b → cond b w (l n) ≡ Unknown → cond b v (e n) ≡ Present
    go true q o = h (ap x (is_local s n q) ∙ i)
    go false q o = k n (rw (q, i) refl) o

pub seen_local : (s : ℕ) (w : Status) (l : Env) (x : Signals) → (x (inner s) ≡ true → w ≢ Unknown)
    → Seen (without s x) l → Seen x (with_local l s w)
unfolding without with_local
seen_local s w l x h k n i = go (same_name (inner s) n) refl
  where
    go : (b : Bool) → same_name (inner s) n ≡ b → cond b w (l n) ≢ Unknown
    go true q = h (ap x (is_local s n q) ∙ i)
    go false q = k n (rw (q, i) refl)

-- a local signal that the meaning of its scope surely emits is present
pub begun_local : (main : Bool) (p : Statement) (s : ℕ) (r : Status) (e : Env)
    → let v = status_at r s (term_of p) e in
    emits is_sure main p (begun main p r (with_local e s v)) (inner s) ≡ true → v ≡ Present
begun_local main p s r e h =
    let v = status_at r s (term_of p) e in
    let within = with_local e s v in
    let m : (must_at r (term_of p) within).signals (inner s) ≡ true
    = sym (ap (λ (f : Signals). f (inner s)) (sure_begun main p r within)) ∙ h in
    sym (status_steady r s (term_of p) e)
    ∙ ap (λ (b : Bool). verdict b ((can_at r (term_of p) within).signals (inner s))) m

pub resumed_local : (p : Statement) (bits : ℕ → Bool) (s : ℕ) (r : Status) (e : Env)
    → let v = status_at r s (term_at p bits) e in
    emits is_sure true p (resumed p bits r (with_local e s v)) (inner s) ≡ true → v ≡ Present
resumed_local p bits s r e h =
    let v = status_at r s (term_at p bits) e in
    let within = with_local e s v in
    let m : (must_at r (term_at p bits) within).signals (inner s) ≡ true
    = sym (ap (λ (f : Signals). f (inner s)) (sure_resumed p bits r within)) ∙ h in
    sym (status_steady r s (term_at p bits) e)
    ∙ ap (λ (b : Bool). verdict b ((can_at r (term_at p bits) within).signals (inner s))) m

-- a status cell at rest is in no doubt where the signal is surely emitted
pub status_seen : (main : Bool) (p : Statement) (s : ℕ) (w : Status) (T : Sheet main p)
    → learned w (emitted_status main p s T) ≡ w → emits is_sure main p T (inner s) ≡ true → w ≢ Unknown
status_seen main p s Present T q h z = cc
status_seen main p s Absent T q h z = cc
status_seen main p s Unknown T q h z =
    let a : emitted_status main p s T ≡ Present
    = ap (λ (b : Bool). verdict b (emits is_possible main p T (inner s))) h in
    let c : Present ≡ Unknown = sym a ∙ q in
    cc

-- what is not begun emits nothing
pub idle_heard : (main : Bool) (p : Statement) (e f l : Env) → Heard (emits is_sure main p (begun main p Absent e)) f l
unfolding no_signals
idle_heard main p e f l n i j =
    let z : false ≡ true = sym (ap (λ (x : Signals). x n) (sure_begun main p Absent e)) ∙ i in
    cc

-- what is told, by masks
told_one : (p x q : Bool) → verdict (p || (x && q)) q ≡ cond x (learned (verdict p q) Present) (verdict p q)
told_one true true q = refl
told_one true false q = refl
told_one false true true = refl
told_one false true false = refl
told_one false false q = refl

pub told_is : (e f : Known) (x : SignalSet)
    → ((n : ℕ) → bits f.present.interface n
    ≡ (bits e.present.interface n || (bits x.interface n && bits e.possible.interface n)))
    → ((n : ℕ) → bits f.present.local n
    ≡ (bits e.present.local n || (bits x.local n && bits e.possible.local n)))
    → f.possible ≡ e.possible → env_of f ≡ told (env_of e) (set_of x)
unfolding env_of set_of told
told_is e f x a b c = fun_ext (elim [
  | outer n ↦ ap (λ (z : Bool). verdict z (bits f.possible.interface n)) (a n)
      ∙ (ap (λ (z : SignalSet). verdict
      (bits e.present.interface n || (bits x.interface n && bits e.possible.interface n)) (bits z.interface n)) c
      ∙ told_one (bits e.present.interface n) (bits x.interface n) (bits e.possible.interface n))
  | inner n ↦ ap (λ (z : Bool). verdict z (bits f.possible.local n)) (b n)
      ∙ (ap (λ (z : SignalSet). verdict
      (bits e.present.local n || (bits x.local n && bits e.possible.local n)) (bits z.local n)) c
      ∙ told_one (bits e.present.local n) (bits x.local n) (bits e.possible.local n))
])
