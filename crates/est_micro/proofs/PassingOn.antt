-- The same of a statement that goes on from its pauses.
use Rattle.std.specs.Prelude.{◌≡◌, ◌≤◌, ◌+◌, ℕ, Bool, true, false, cond, List}
use Rattle.std.proofs.Common.{refl, sym, arith, subst}
use Rattle.est_kernel.specs.Term.{Term, seq}
use Rattle.est_kernel.specs.View.{term_of}
use Rattle.est_kernel.specs.declared.statement.Statement.{Statement}
use Rattle.est_kernel.specs.declared.statement.Statement.TheVariants.{Seq'}
use Rattle.est_kernel.specs.declared.statement.Statement.TheVariants.{Loop', Par'}
use Rattle.est_meaning.specs.Environments.{Env}
use Rattle.est_meaning.specs.Knowledge.{IsBelow, KnowsLess}
use Rattle.est_meaning.specs.States.{is_live, term_at}
use Rattle.est_meaning.specs.declared.status.Status.{Status}
use Rattle.est_meaning.specs.declared.status.Status.TheVariants.{Absent}
use Rattle.est_cells.proofs.Order.{ends_below}
use Rattle.est_cells.specs.Gates.{ends}
use Rattle.est_cells.specs.Meaning.{begun, cells_at, resumed, resumed_parts}
use Rattle.est_cells.specs.Tables.{Below, PartsBelow, Sheet, emits, is_sure, sheet_size}
use Rattle.est_net.specs.Cells.{cell_at}
use Rattle.est_net.specs.Layout.{node_in, parts_in, sheet_in}
use Rattle.est_micro.specs.Inner.Hearing.{Heard}
use Rattle.est_micro.specs.Inner.Passes.{EndsBy, Passes, PassesOn}
use Rattle.est_micro.specs.Sweeps.{live_swept}
use Rattle.est_micro.specs.Inner.Views.{Changes, IsSwept}
use Rattle.est_micro.specs.declared.cells.Swept.{Swept}
use Rattle.est_micro.specs.declared.direction.Direction.{Direction}
use Rattle.est_micro.proofs.BegunNodes.{widen}
use Rattle.est_micro.proofs.Frames.{node_same}
use Rattle.est_micro.proofs.Hearing.{heard_left, heard_right}
use Rattle.est_micro.proofs.Passing.{after_it, before_it, passed}
use Rattle.est_micro.proofs.SweepsAreSound.{live_swept_sound}

-- what a pass keeps
pub passed_on : (p : Statement) (bits : ℕ → Bool) (d t : ℕ) (h : Status) (l : Env) (old new : List Status)
    → PassesOn p bits d t h l old new → (r : Status) (e : Env) → IsBelow h r → KnowsLess l e
    → Heard (emits is_sure true p (resumed p bits r e)) e l
    → Below true p (sheet_in (cell_at old) true p d t) (resumed p bits r e)
    → Below true p (sheet_in (cell_at new) true p d t) (resumed p bits r e)
passed_on p bits d t h l old new k r e i j u b =
    k.sound (resumed p bits r e) (record { reach = r; env = e; is = refl; below = i; less = j; heard = u }) b

-- where only parts change
pub parts_pass_on : (s : Statement) (bits : ℕ → Bool) (c t : ℕ) (g : Status) (l : Env) (old new : List Status)
    (lo hi : ℕ)
    → c + t + 3 ≤ lo → hi ≤ c + sheet_size true s t → Changes lo hi old new
    → ((r : Status) (e : Env) → IsBelow g r → KnowsLess l e → Heard (emits is_sure true s (resumed s bits r e)) e l
    → Below true s (sheet_in (cell_at old) true s c t) (resumed s bits r e)
    → PartsBelow true s (parts_in (cell_at new) true s c t) (resumed_parts s bits r e))
    → PassesOn s bits c t g l old new
parts_pass_on s bits c t g l old new lo hi x y h f =
    let P = parts_in (cell_at new) true s c t in
    let same : sheet_in (cell_at new) true s c t ≡ node_in (cell_at old) c t P
    = node_same (cell_at new) (cell_at old) c t P P (λ i k u. h.before i (omega arith)) refl in
    record {
      changes = widen lo c hi (c + sheet_size true s t) old new (omega arith) y h;
      sound = λ M m b.
          let N = resumed s bits m.reach m.env in
          let o = subst (λ (z : Sheet true s). Below true s (sheet_in (cell_at old) true s c t) z) m.is b in
          subst (λ (z : Sheet true s). Below true s (sheet_in (cell_at new) true s c t) z) (sym m.is)
          (subst (λ (z : Sheet true s). Below true s z N) (sym same)
          (record { cells = o.cells; parts = f m.reach m.env m.below m.less m.heard o }));
    }

-- of a choice by whether a part is live
on_it : (b : Bool) (p : Statement) (X Y S T : Sheet true p) (e l : Env) → b ≡ true
    → (Heard (emits is_sure true p X) e l → Below true p S X → Below true p T X)
    → Heard (emits is_sure true p (cond b X Y)) e l → Below true p S (cond b X Y) → Below true p T (cond b X Y)
on_it true p X Y S T e l z f u c = f u c
on_it false p X Y S T e l z f u c = let x : false ≡ true = z in cc

off_it : (b : Bool) (p : Statement) (X Y S T : Sheet true p) (e l : Env) → b ≡ false
    → (Heard (emits is_sure true p Y) e l → Below true p S Y → Below true p T Y)
    → Heard (emits is_sure true p (cond b X Y)) e l → Below true p S (cond b X Y) → Below true p T (cond b X Y)
off_it false p X Y S T e l z f u c = f u c
off_it true p X Y S T e l z f u c = let x : true ≡ false = z in cc

pub par_on_first : (bits : ℕ → Bool) (a : _) (p : Statement) (b : _) (q : Statement) (c t : ℕ) (g : Status) (l : Env)
    (old new : List Status) → is_live p bits ≡ true → PassesOn p bits (c + t + 3) t g l old new
    → PassesOn (Par' a p b q) bits c t g l old new
par_on_first bits a p b q c t g l old new z k =
    let d = c + t + 3 in
    parts_pass_on (Par' a p b q) bits c t g l old new d (d + sheet_size true p t) (omega arith)
    (omega arith) k.changes (λ r e i j u o. record {
      first = on_it (is_live p bits) p (resumed p bits r e) (begun true p Absent e)
          (sheet_in (cell_at old) true p d t) (sheet_in (cell_at new) true p d t) e l z
          (λ v w. passed_on p bits d t g l old new k r e i j v w) (heard_left _ _ e l u) o.parts.first;
      second = after_it true q (d + sheet_size true p t) t _ _ old new _ k.changes (omega arith) o.parts.second;
    })

pub par_on_second : (bits : ℕ → Bool) (a : _) (p : Statement) (b : _) (q : Statement) (c t : ℕ) (g : Status) (l : Env)
    (old new : List Status) → is_live q bits ≡ true
    → PassesOn q bits (c + t + 3 + sheet_size true p t) t g l old new → PassesOn (Par' a p b q) bits c t g l old new
par_on_second bits a p b q c t g l old new z k =
    let d = c + t + 3 + sheet_size true p t in
    parts_pass_on (Par' a p b q) bits c t g l old new d (d + sheet_size true q t) (omega arith)
    (omega arith) k.changes (λ r e i j u o. record {
      first = before_it true p (c + t + 3) t _ _ old new _ k.changes (omega arith) o.parts.first;
      second = on_it (is_live q bits) q (resumed q bits r e) (begun true q Absent e)
          (sheet_in (cell_at old) true q d t) (sheet_in (cell_at new) true q d t) e l z
          (λ v w. passed_on q bits d t g l old new k r e i j v w) (heard_right _ _ e l u) o.parts.second;
    })

pub seq_on_first : (bits : ℕ → Bool) (a : _) (p : Statement) (b : _) (q : Statement) (c t : ℕ) (g : Status) (l : Env)
    (old new : List Status) → is_live p bits ≡ true → PassesOn p bits (c + t + 3) t g l old new
    → PassesOn (Seq' a p b q) bits c t g l old new
seq_on_first bits a p b q c t g l old new z k =
    let d = c + t + 3 in
    parts_pass_on (Seq' a p b q) bits c t g l old new d (d + sheet_size true p t) (omega arith)
    (omega arith) k.changes (λ r e i j u o. record {
      first = on_it (is_live p bits) p (resumed p bits r e) (begun true p Absent e)
          (sheet_in (cell_at old) true p d t) (sheet_in (cell_at new) true p d t) e l z
          (λ v w. passed_on p bits d t g l old new k r e i j v w) (heard_left _ _ e l u) o.parts.first;
      second = after_it true q (d + sheet_size true p t) t _ _ old new _ k.changes (omega arith) o.parts.second;
    })

-- the choice is the first where the part is live, and the second where it isn't
pub chosen : (b : Bool) (p : Statement) (S X Y : Sheet true p) → b ≡ true → Below true p S (cond b X Y)
    → Below true p S X
chosen true p S X Y z c = c
chosen false p S X Y z c = let x : false ≡ true = z in cc

pub left_over : (b : Bool) (p : Statement) (S X Y : Sheet true p) → b ≡ false → Below true p S (cond b X Y)
    → Below true p S Y
left_over false p S X Y z c = c
left_over true p S X Y z c = let x : true ≡ false = z in cc

-- what is known of whether a statement ends: what its cell of code 0 says; and of a `;` whose first part doesn't go on,
-- what is known of its second
pub ends_known : (s : Statement) (bits : ℕ → Bool) (c t : ℕ) (cells : List Status) (h : Status)
    → h ≡ ends (sheet_in (cell_at cells) true s c t).cells → EndsBy s bits c t cells h
ends_known s bits c t cells h z = record {
  says = λ r e b.
      subst (λ (x : Status). IsBelow x (ends (cells_at Absent r (term_at s bits) e))) (sym z) (ends_below _ _ b.cells);
}

second_term : {A : Type 0} (b : Bool) (x y : A) → b ≡ false → y ≡ cond b x y
second_term false x y z = refl
second_term true x y z = let w : true ≡ false = z in cc

pub ends_second : (bits : ℕ → Bool) (a : _) (p : Statement) (b : _) (q : Statement) (c t e : ℕ) (cells : List Status)
    (h : Status) → is_live p bits ≡ false → e ≡ c + t + 3 + sheet_size true p t → EndsBy q bits e t cells h
    → EndsBy (Seq' a p b q) bits c t cells h
ends_second bits a p b q c t e cells h z w k =
    let d = c + t + 3 + sheet_size true p t in
    let at = subst (λ (i : ℕ). EndsBy q bits i t cells h) w k in
    record {
      says = λ r env o.
          let later = ends (cells_at Absent r (term_at p bits) env) in
          subst (λ (x : Term). IsBelow h (ends (cells_at Absent r x env)))
          (second_term (is_live p bits) (seq (term_at p bits) (term_of q)) (term_at q bits) z)
          (at.says r env (left_over (is_live p bits) q (sheet_in (cell_at cells) true q d t) (begun true q later env)
          (resumed q bits r env) z o.parts.second));
    }

pub seq_on_next : (bits : ℕ → Bool) (a : _) (p : Statement) (b : _) (q : Statement) (c t : ℕ) (g h : Status) (l : Env)
    (old new : List Status) → is_live p bits ≡ true
    → EndsBy p bits (c + t + 3) t old h
    → Passes true q (c + t + 3 + sheet_size true p t) t h l old new → PassesOn (Seq' a p b q) bits c t g l old new
seq_on_next bits a p b q c t g h l old new z y k =
    let d = c + t + 3 + sheet_size true p t in
    parts_pass_on (Seq' a p b q) bits c t g l old new d (d + sheet_size true q t) (omega arith)
    (omega arith) k.changes (λ r e i j u o.
    let later = ends (cells_at Absent r (term_at p bits) e) in
    record {
      first = before_it true p (c + t + 3) t _ _ old new _ k.changes (omega arith) o.parts.first;
      second = on_it (is_live p bits) q (begun true q later e) (resumed q bits r e)
          (sheet_in (cell_at old) true q d t) (sheet_in (cell_at new) true q d t) e l z
          (λ v w. passed true q d t h l old new k later e
          (y.says r e (chosen (is_live p bits) p (sheet_in (cell_at old) true p (c + t + 3) t) (resumed p bits r e)
          (begun true p Absent e) z o.parts.first)) j v w)
          (heard_right _ _ e l u) o.parts.second;
    })

pub seq_on_second : (bits : ℕ → Bool) (a : _) (p : Statement) (b : _) (q : Statement) (c t : ℕ) (g : Status)
    (l : Env) (old new : List Status) → is_live p bits ≡ false
    → PassesOn q bits (c + t + 3 + sheet_size true p t) t g l old new
    → PassesOn (Seq' a p b q) bits c t g l old new
seq_on_second bits a p b q c t g l old new z k =
    let d = c + t + 3 + sheet_size true p t in
    parts_pass_on (Seq' a p b q) bits c t g l old new d (d + sheet_size true q t) (omega arith)
    (omega arith) k.changes (λ r e i j u o.
    let later = ends (cells_at Absent r (term_at p bits) e) in
    record {
      first = before_it true p (c + t + 3) t _ _ old new _ k.changes (omega arith) o.parts.first;
      second = off_it (is_live p bits) q (begun true q later e) (resumed q bits r e)
          (sheet_in (cell_at old) true q d t) (sheet_in (cell_at new) true q d t) e l z
          (λ v w. passed_on q bits d t g l old new k r e i j v w) (heard_right _ _ e l u) o.parts.second;
    })

-- a first part that is over
pub loop_on_first : (bits : ℕ → Bool) (a : _) (p : Statement) (c t : ℕ) (g : Status) (l : Env)
    (old new : List Status) → PassesOn p bits (c + t + 3) t g l old new → PassesOn (Loop' a p) bits c t g l old new
loop_on_first bits a p c t g l old new k =
    let d = c + t + 3 in
    parts_pass_on (Loop' a p) bits c t g l old new d (d + sheet_size true p t) (omega arith)
    (omega arith) k.changes (λ r e i j u o. record {
      first = passed_on p bits d t g l old new k r e i j (heard_left _ _ e l u) o.parts.first;
      second = after_it false p (d + sheet_size true p t) t _ _ old new _ k.changes (omega arith) o.parts.second;
    })

pub loop_on_again : (bits : ℕ → Bool) (a : _) (p : Statement) (c t : ℕ) (g h : Status) (l : Env)
    (old new : List Status) → EndsBy p bits (c + t + 3) t old h
    → Passes false p (c + t + 3 + sheet_size true p t) t h l old new → PassesOn (Loop' a p) bits c t g l old new
loop_on_again bits a p c t g h l old new y k =
    let d = c + t + 3 + sheet_size true p t in
    parts_pass_on (Loop' a p) bits c t g l old new d (d + sheet_size false p t) (omega arith)
    (omega arith) k.changes (λ r e i j u o.
    let later = ends (cells_at Absent r (term_at p bits) e) in
    record {
      first = before_it true p (c + t + 3) t _ _ old new _ k.changes (omega arith) o.parts.first;
      second = passed false p d t h l old new k later e
          (y.says r e o.parts.first) j
          (heard_right _ _ e l u) o.parts.second;
    })

-- a sweep is a pass
pub sweep_passes_on : (way : Direction) (s : Statement) (bits : ℕ → Bool) (c t : ℕ) (g : Status) (l : Env)
    (old new : List Status) (r : Swept) → IsSwept true s c t (live_swept way s bits g l) old new r
    → PassesOn s bits c t g l old new
sweep_passes_on way s bits c t g l old new r h = record {
  changes = h.changes;
  sound = λ M m b.
      let S = sheet_in (cell_at old) true s c t in
      let k = subst (λ (z : Sheet true s). Below true s S z) m.is b in
      subst (λ (z : Sheet true s). Below true s (sheet_in (cell_at new) true s c t) z) (sym m.is)
      (subst (λ (z : Sheet true s). Below true s z (resumed s bits m.reach m.env)) (sym h.sheet)
      (live_swept_sound way s bits m.reach g m.env l S m.below m.less m.heard k));
}
