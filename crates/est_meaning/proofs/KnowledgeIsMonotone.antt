-- More knowledge makes Must larger and Can smaller.
use Rattle.std.specs.Prelude.{◌≡◌, ℕ, zero, suc, ◌+◌, Bool, true, false, not, cond, ◌&&◌, max}
use Rattle.std.proofs.Common.{inl, inr, ap, sym, ◌∙◌, refl, arith, subst}
use Rattle.std.proofs.lemmas.Bool.{or_cases, and_parts, both_ways, or_right}
use Rattle.est_kernel.specs.Term.{inner, Query, tick, of, negated, joined, Queries, last, more, Term, nothing, pause}
use Rattle.est_kernel.specs.Term.{emit, present, suspend, held, seq, loop, par, trap, exit, signal}
use Rattle.est_kernel.specs.Codes.{Codes, no_codes, code, either_code, but_zero, max_codes, some_up_to}
use Rattle.est_kernel.specs.Codes.{codes_out_of_trap, code_out_of_trap}
use Rattle.est_kernel.specs.declared.statement.Connective.{Connective}
use Rattle.est_kernel.specs.declared.statement.Connective.TheVariants.{And, Or}
use Rattle.est_meaning.specs.Signals.{Signals, no_signals, union, without, same_name}
use Rattle.est_meaning.specs.declared.status.Status.{Status}
use Rattle.est_meaning.specs.declared.status.Status.TheVariants.{Present, Absent, Unknown}
use Rattle.est_meaning.specs.Environments.{Env, opposite, and_status, or_status, joint_status, status_of, status_of_all}
use Rattle.est_meaning.specs.Environments.{with_local, verdict, by_status}
use Rattle.est_meaning.specs.MustCan.{Acts, no_acts, just_code, either, together, acts_out_of_trap, hide, may_stay}
use Rattle.est_meaning.specs.MustCan.{must_then, can_then, Mode, sure, maybe, next_mode, must, can, env_within}
use Rattle.est_meaning.specs.Knowledge.{IsBelow, KnowsLess, IsIn, IsWithin}
use Rattle.est_meaning.proofs.CodeSetLemmas.{max_mono, out_of_trap_mono, up_to_found, code_true}

pub same_within : (a : Acts) → IsWithin a a
same_within a = record { signals = λ x h. h; codes = λ x h. h }

then_within : {a b c : Acts} → IsWithin a b → IsWithin b c → IsWithin a c
then_within f g = record { signals = λ x h. g.signals x (f.signals x h); codes = λ x h. g.codes x (f.codes x h) }

pub none_within : (a : Acts) → IsWithin no_acts a
unfolding no_signals no_codes
none_within a = record { signals = λ x h. cc; codes = λ x h. cc }

pub union_in : (a b c d : Signals) → IsIn a c → IsIn b d → IsIn (union a b) (union c d)
unfolding union
union_in a b c d f g x h = elim (or_cases (a x) (b x) h)
    [ inl l ↦ rw (f x l) refl | inr l ↦ or_right (c x) (d x) (g x l) ]

pub either_in : (a b c d : Codes) → IsIn a c → IsIn b d → IsIn (either_code a b) (either_code c d)
unfolding either_code
either_in a b c d f g x h = elim (or_cases (a x) (b x) h)
    [ inl l ↦ rw (f x l) refl | inr l ↦ or_right (c x) (d x) (g x l) ]

left_in : (a b : Codes) → IsIn a (either_code a b)
unfolding either_code
left_in a b x h = rw h refl

right_in : (a b : Codes) → IsIn b (either_code a b)
unfolding either_code
right_in a b x h = or_right (a x) (b x) h

left_union : (a b : Signals) → IsIn a (union a b)
unfolding union
left_union a b x h = rw h refl

right_union : (a b : Signals) → IsIn b (union a b)
unfolding union
right_union a b x h = or_right (a x) (b x) h

pub but_zero_in : (a b : Codes) → IsIn a b → IsIn (but_zero a) (but_zero b)
unfolding but_zero
but_zero_in a b f zero h = h
but_zero_in a b f (suc n) h = f (suc n) h

pub without_in : (s : ℕ) (a b : Signals) → IsIn a b → IsIn (without s a) (without s b)
unfolding without
without_in s a b f x h = let p = and_parts (not (same_name (inner s) x)) (a x) h in rw (p.0, f x p.1) refl

either_within : (a b c d : Acts) → IsWithin a c → IsWithin b d → IsWithin (either a b) (either c d)
either_within a b c d f g =
    record { signals = union_in _ _ _ _ f.signals g.signals; codes = either_in _ _ _ _ f.codes g.codes }

together_within : (a b c d : Acts) → IsWithin a c → IsWithin b d → IsWithin (together a b) (together c d)
together_within a b c d f g = record {
  signals = union_in _ _ _ _ f.signals g.signals;
  codes = λ k h. max_mono a.codes b.codes c.codes d.codes k f.codes g.codes h;
}

out_of_trap_within : (a b : Acts) → IsWithin a b → IsWithin (acts_out_of_trap a) (acts_out_of_trap b)
out_of_trap_within a b f = record { signals = f.signals; codes = λ k h. out_of_trap_mono a.codes b.codes k f.codes h }

hide_within : (s : ℕ) (a b : Acts) → IsWithin a b → IsWithin (hide s a) (hide s b)
hide_within s a b f = record { signals = without_in s a.signals b.signals f.signals; codes = f.codes }

left_within : (a b : Acts) → IsWithin a (either a b)
left_within a b = record { signals = left_union _ _; codes = left_in _ _ }

right_within : (a b : Acts) → IsWithin b (either a b)
right_within a b = record { signals = right_union _ _; codes = right_in _ _ }

stay_within : (a b : Acts) → IsWithin a b → IsWithin (may_stay a) (may_stay b)
stay_within a b f = record { signals = f.signals; codes = either_in _ _ _ _ f.codes (λ k h. h) }

more_within : (a : Acts) → IsWithin a (may_stay a)
more_within a = record { signals = λ x h. h; codes = left_in _ _ }

one_within : (a : Acts) → IsWithin (just_code 1) (may_stay a)
unfolding no_signals
one_within a = record { signals = λ x h. cc; codes = right_in _ _ }

-- one code at most
abbrev pub IsOne : Codes → Type 0
IsOne c = (i j : ℕ) → c i ≡ true → c j ≡ true → i ≡ j

one_none : IsOne no_codes
unfolding no_codes
one_none i j h g = cc

one_code_alone : (k : ℕ) → IsOne (code k)
one_code_alone k i j h g = code_true k i h ∙ sym (code_true k j g)

max_found : (a b : Codes) (k : ℕ) → max_codes a b k ≡ true → (i j : ℕ) × (a i ≡ true) × (b j ≡ true) × (k ≡ max i j)
unfolding max_codes
max_found a b k h = elim (or_cases (a k && some_up_to b k) (b k && some_up_to a k) h) [
  | inl l ↦
      let x = and_parts (a k) (some_up_to b k) l in
      let f = up_to_found b k x.1 in
      (k, f.0, x.0, f.2, omega (arith, f.1))
  | inr l ↦
      let x = and_parts (b k) (some_up_to a k) l in
      let f = up_to_found a k x.1 in
      (f.0, k, f.2, x.0, omega (arith, f.1))
]

out_of_trap_found : (a : Codes) (k : ℕ) → codes_out_of_trap a k ≡ true
    → (i : ℕ) × (a i ≡ true) × (k ≡ code_out_of_trap i)
unfolding codes_out_of_trap
out_of_trap_found a zero h = elim (or_cases (a 0) (a 2) h) [ inl l ↦ (0, l, refl) | inr l ↦ (2, l, refl) ]
out_of_trap_found a (suc zero) h = (1, h, refl)
out_of_trap_found a (suc (suc k)) h = (suc (suc (suc k)), h, refl)

one_max : (a b : Codes) → IsOne a → IsOne b → IsOne (max_codes a b)
one_max a b f g i j h l =
    let x = max_found a b i h in
    let y = max_found a b j l in
    let p : x.0 ≡ y.0 = f x.0 y.0 x.2 y.2 in
    let q : x.1 ≡ y.1 = g x.1 y.1 x.3 y.3 in
    omega (arith, p, q, x.4, y.4)

one_out_of_trap : (a : Codes) → IsOne a → IsOne (codes_out_of_trap a)
one_out_of_trap a f i j h l =
    let x = out_of_trap_found a i h in
    let y = out_of_trap_found a j l in
    x.2 ∙ (ap code_out_of_trap (f x.0 y.0 x.1 y.1) ∙ sym y.2)

one_chosen : (v : Status) (a b : Acts) → IsOne a.codes → IsOne b.codes → IsOne (by_status v a b no_acts).codes
one_chosen Present a b f g = f
one_chosen Absent a b f g = g
one_chosen Unknown a b f g = one_none

one_then : (x : Bool) (a b : Acts) → IsOne a.codes → IsOne b.codes
    → IsOne (cond x (record { signals = union a.signals b.signals; codes = b.codes }) a).codes
one_then true a b f g = g
one_then false a b f g = f

-- Must has one code at most
pub must_one : (t : Term) (e : Env) → IsOne (must t e).codes
must_one nothing e = one_code_alone 0
must_one pause e = one_code_alone 1
must_one (emit s) e = one_code_alone 0
must_one (exit k) e = one_code_alone (k + 2)
must_one (present s p q) e = one_chosen (status_of e s) (must p e) (must q e) (must_one p e) (must_one q e)
must_one (suspend s p) e = must_one p e
must_one (held s p) e = one_chosen (status_of e s) (just_code 1) (must p e) (one_code_alone 1) (must_one p e)
must_one (seq p q) e = one_then ((must p e).codes 0) (must p e) (must q e) (must_one p e) (must_one q e)
must_one (loop p) e = must_one p e
must_one (par p q) e = one_max _ _ (must_one p e) (must_one q e)
must_one (trap p) e = one_out_of_trap _ (must_one p e)
must_one (signal s p) e = must_one p _

-- what goes on after the first part
must_then_within : (a b c d : Acts) → IsOne c.codes → IsWithin a c → IsWithin b d
    → IsWithin (must_then a b) (must_then c d)
must_then_within a b c d one f g = go (a.codes 0) (c.codes 0) refl refl
  where
    go : (x y : Bool) → a.codes 0 ≡ x → c.codes 0 ≡ y
        → IsWithin (cond x (record { signals = union a.signals b.signals; codes = b.codes }) a)
        (cond y (record { signals = union c.signals d.signals; codes = d.codes }) c)
    go true true p q = record { signals = union_in _ _ _ _ f.signals g.signals; codes = g.codes }
    go true false p q = absurd (both_ways (c.codes 0) q (f.codes 0 p))
    go false true p q = record {
      signals = λ x h. left_union _ _ x (f.signals x h);
      codes = λ k h. absurd (both_ways (a.codes 0) p (rw (one k 0 (f.codes k h) q) at h));
    }
    go false false p q = f

later_in : (a c : Codes) → a 0 ≡ false → IsIn a c → IsIn a (but_zero c)
unfolding but_zero
later_in a c z f zero h = absurd (both_ways (a 0) z h)
later_in a c z f (suc k) h = f (suc k) h

can_then_within : (a b c d : Acts) → IsWithin a c → IsWithin b d → IsWithin (can_then a b) (can_then c d)
can_then_within a b c d f g = go (a.codes 0) (c.codes 0) refl refl
  where
    go : (x y : Bool) → a.codes 0 ≡ x → c.codes 0 ≡ y
        → IsWithin (cond x (record {
          signals = union a.signals b.signals;
          codes = either_code (but_zero a.codes) b.codes;
        }) a) (cond y (record { signals = union c.signals d.signals; codes = either_code (but_zero c.codes) d.codes })
        c)
    go true true p q =
        record {
          signals = union_in _ _ _ _ f.signals g.signals;
          codes = either_in _ _ _ _ (but_zero_in _ _ f.codes) g.codes;
        }
    go true false p q = absurd (both_ways (c.codes 0) q (f.codes 0 p))
    go false true p q = record {
      signals = λ x h. left_union _ _ x (f.signals x h);
      codes = λ k h. left_in _ _ k (later_in a.codes c.codes p f.codes k h);
    }
    go false false p q = f

must_can_then : (a b c d : Acts) → IsWithin a c → (a.codes 0 ≡ true → IsWithin b d)
    → IsWithin (must_then a b) (can_then c d)
must_can_then a b c d f g = go (a.codes 0) (c.codes 0) refl refl
  where
    go : (x y : Bool) → a.codes 0 ≡ x → c.codes 0 ≡ y
        → IsWithin (cond x (record { signals = union a.signals b.signals; codes = b.codes }) a)
        (cond y (record { signals = union c.signals d.signals; codes = either_code (but_zero c.codes) d.codes }) c)
    go true true p q =
        record { signals = union_in _ _ _ _ f.signals (g p).signals; codes = λ k h. right_in _ _ k ((g p).codes k h) }
    go true false p q = absurd (both_ways (c.codes 0) q (f.codes 0 p))
    go false true p q = record {
      signals = λ x h. left_union _ _ x (f.signals x h);
      codes = λ k h. left_in _ _ k (later_in a.codes c.codes p f.codes k h);
    }
    go false false p q = f

pub local_below : (e f : Env) (s : ℕ) (v w : Status) → KnowsLess e f → IsBelow v w
    → KnowsLess (with_local e s v) (with_local f s w)
unfolding with_local
local_below e f s v w k b t = go (same_name (inner s) t)
  where
    go : (x : Bool) → IsBelow (cond x v (e t)) (cond x w (f t))
    go true = b
    go false = k t

must_can_chosen : (v : Status) (a b c d x : Acts) → IsWithin a c → IsWithin b d
    → IsWithin (by_status v a b no_acts) (by_status v c d x)
must_can_chosen Present a b c d x f g = f
must_can_chosen Absent a b c d x f g = g
must_can_chosen Unknown a b c d x f g = none_within x

-- what must be done can be done
pub must_can : (t : Term) (e : Env) → IsWithin (must t e) (can t sure e)
must_can nothing e = same_within _
must_can pause e = same_within _
must_can (emit s) e = same_within _
must_can (exit k) e = same_within _
must_can (present s p q) e = must_can_chosen (status_of e s) _ _ _ _ _ (must_can p e) (must_can q e)
must_can (suspend s p) e = must_can p e
must_can (held s p) e = must_can_chosen (status_of e s) _ _ _ _ _ (same_within (just_code 1)) (must_can p e)
must_can (seq p q) e =
    must_can_then _ _ _ _ (must_can p e)
    (λ h. subst (λ b. IsWithin (must q e) (can q (next_mode sure b) e)) (sym h) (must_can q e))
must_can (loop p) e = must_can p e
must_can (par p q) e = together_within _ _ _ _ (must_can p e) (must_can q e)
must_can (trap p) e = out_of_trap_within _ _ (must_can p e)
must_can (signal s p) e = hide_within s _ _ (must_can p _)

-- the three at once, since each needs the others at the parts
pub record Monotone (t : Term) : Type 0 where
  pub must_up : (e f : Env) → KnowsLess e f → IsWithin (must t e) (must t f)
  pub can_down : (m : Mode) (e f : Env) → KnowsLess e f → IsWithin (can t m f) (can t m e)
  pub eased : (e : Env) → IsWithin (can t sure e) (can t maybe e)

in_doubt : (t : Term) → Monotone t → (m : Mode) (e : Env) → IsWithin (can t m e) (can t maybe e)
in_doubt t h sure e = h.eased e
in_doubt t h maybe e = same_within _

-- with more known of the sides, more is known of a test
pub opposite_below : (v w : Status) → IsBelow v w → IsBelow (opposite v) (opposite w)
opposite_below v w (inl h) = inl (ap opposite h)
opposite_below v w (inr h) = inr (ap opposite h)

pub and_below : (v w x y : Status) → IsBelow v w → IsBelow x y → IsBelow (and_status v x) (and_status w y)
and_below v w x y (inr h) (inr i) = inr (rw (h, i) refl)
and_below v w x y (inr h) (inl i) = rw (h, i) (unknown_side w)
  where
    unknown_side : (w : Status) → IsBelow (and_status w Unknown) (and_status w y)
    unknown_side Present = inl refl
    unknown_side Absent = inr refl
    unknown_side Unknown = inl refl
and_below v w x y (inl h) (inr i) = rw (h, i) (unknown_first y)
  where
    unknown_first : (y : Status) → IsBelow (and_status Unknown y) (and_status w y)
    unknown_first Present = inl refl
    unknown_first Absent = inr (sym (both w))
      where
        both : (w : Status) → and_status w Absent ≡ Absent
        both Present = refl
        both Absent = refl
        both Unknown = refl
    unknown_first Unknown = inl refl
and_below v w x y (inl h) (inl i) = rw (h, i) (inl refl)

or_is_and : (v w : Status) → or_status v w ≡ opposite (and_status (opposite v) (opposite w))
or_is_and Present w = refl
or_is_and Absent Present = refl
or_is_and Absent Absent = refl
or_is_and Absent Unknown = refl
or_is_and Unknown Present = refl
or_is_and Unknown Absent = refl
or_is_and Unknown Unknown = refl

or_below : (v w x y : Status) → IsBelow v w → IsBelow x y → IsBelow (or_status v x) (or_status w y)
or_below v w x y h i = rw (or_is_and v x, or_is_and w y)
    (opposite_below _ _ (and_below _ _ _ _ (opposite_below v w h) (opposite_below x y i)))

joint_below : (c : Connective) (v w x y : Status) → IsBelow v w → IsBelow x y
    → IsBelow (joint_status c v x) (joint_status c w y)
joint_below And v w x y h i = and_below v w x y h i
joint_below Or v w x y h i = or_below v w x y h i

mutual
  pub query_below : (e f : Env) (t : Query) → KnowsLess e f → IsBelow (status_of e t) (status_of f t)
  query_below e f tick k = inr refl
  query_below e f (of s) k = k s
  query_below e f (negated t) k = opposite_below _ _ (query_below e f t k)
  query_below e f (joined c t ts) k = joint_below c _ _ _ _ (query_below e f t k) (queries_below c e f ts k)

  queries_below : (c : Connective) (e f : Env) (ts : Queries) → KnowsLess e f
      → IsBelow (status_of_all c e ts) (status_of_all c f ts)
  queries_below c e f (last t) k = query_below e f t k
  queries_below c e f (more t ts) k = joint_below c _ _ _ _ (query_below e f t k) (queries_below c e f ts k)

-- of a choice
must_chosen : (v w : Status) (a b c d : Acts) → IsBelow v w → IsWithin a c → IsWithin b d
    → IsWithin (by_status v a b no_acts) (by_status w c d no_acts)
must_chosen v w a b c d (inl h) f g = rw h (none_within _)
must_chosen v w a b c d (inr h) f g = rw h (same w)
  where
    same : (w : Status) → IsWithin (by_status w a b no_acts) (by_status w c d no_acts)
    same Present = f
    same Absent = g
    same Unknown = same_within _

can_chosen : (v w : Status) (a b x c d y : Acts) → IsBelow v w → IsWithin c a → IsWithin d b → IsWithin y x
    → IsWithin c x → IsWithin d x
    → IsWithin (by_status w c d y) (by_status v a b x)
can_chosen v w a b x c d y (inr h) f g i j k = rw h (same w)
  where
    same : (w : Status) → IsWithin (by_status w c d y) (by_status w a b x)
    same Present = f
    same Absent = g
    same Unknown = i
can_chosen v w a b x c d y (inl h) f g i j k = rw h (any w)
  where
    any : (w : Status) → IsWithin (by_status w c d y) x
    any Present = j
    any Absent = k
    any Unknown = i

-- what a local signal is, with more knowledge
pub verdict_below : (b c b' c' : Bool) → (b ≡ true → b' ≡ true) → (c' ≡ true → c ≡ true) → (b' ≡ true → c' ≡ true)
    → IsBelow (verdict b c) (verdict b' c')
verdict_below true c b' c' f g i = rw (f refl) (inr refl)
verdict_below false true b' c' f g i = inl refl
verdict_below false false true c' f g i = absurd (both_ways false refl (g (i refl)))
verdict_below false false false true f g i = absurd (both_ways false refl (g refl))
verdict_below false false false false f g i = inr refl

pub less_same : (e : Env) → KnowsLess e e
less_same e s = inr refl

modes : (m : Mode) (b b' : Bool) → (b ≡ true → b' ≡ true) → (q : Term) (e : Env)
    → ((e : Env) → IsWithin (can q sure e) (can q maybe e))
    → IsWithin (can q (next_mode m b') e) (can q (next_mode m b) e)
modes sure true b' f q e h = rw (f refl) (same_within _)
modes sure false true f q e h = h e
modes sure false false f q e h = same_within _
modes maybe b b' f q e h = same_within _

-- the environment of a local signal's body, with more knowledge
sure_below : (s : ℕ) (p : Term) → Monotone p → (e f : Env) → KnowsLess e f
    → KnowsLess (env_within sure s p e) (env_within sure s p f)
sure_below s p P e f k =
    let kk = local_below e f s Unknown Unknown k (inr refl) in
    local_below e f s _ _ k (verdict_below _ _ _ _
    ((P.must_up (with_local e s Unknown) (with_local f s Unknown) kk).signals (inner s))
    ((P.can_down sure (with_local e s Unknown) (with_local f s Unknown) kk).signals (inner s))
    ((must_can p (with_local f s Unknown)).signals (inner s)))

pub no_true : {A : Type 0} → false ≡ true → A
no_true h = cc

signal_down : (s : ℕ) (p : Term) → Monotone p → (m : Mode) (e f : Env) → KnowsLess e f
    → IsWithin (can (signal s p) m f) (can (signal s p) m e)
signal_down s p P sure e f k = hide_within s _ _ (P.can_down sure _ _ (sure_below s p P e f k))
signal_down s p P maybe e f k =
    let kk = local_below e f s Unknown Unknown k (inr refl) in
    hide_within s _ _ (P.can_down maybe _ _ (local_below e f s _ _ k (verdict_below _ _ _ _
    (λ h. no_true h)
    ((P.can_down maybe (with_local e s Unknown) (with_local f s Unknown) kk).signals (inner s))
    (λ h. no_true h))))

signal_eased : (s : ℕ) (p : Term) → Monotone p → (e : Env)
    → IsWithin (can (signal s p) sure e) (can (signal s p) maybe e)
signal_eased s p P e =
    hide_within s _ _
    (then_within (P.eased _) (P.can_down maybe _ _ (local_below e e s _ _ (less_same e) (verdict_below _ _ _ _
    (λ h. no_true h)
    ((P.eased (with_local e s Unknown)).signals (inner s))
    ((must_can p (with_local e s Unknown)).signals (inner s))))))

-- all of it, by induction on the term
pub monotone : (t : Term) → Monotone t
monotone nothing =
    record { must_up = λ e f k. same_within _; can_down = λ m e f k. same_within _; eased = λ e. same_within _ }
monotone pause =
    record { must_up = λ e f k. same_within _; can_down = λ m e f k. same_within _; eased = λ e. same_within _ }
monotone (emit s) =
    record { must_up = λ e f k. same_within _; can_down = λ m e f k. same_within _; eased = λ e. same_within _ }
monotone (exit n) =
    record { must_up = λ e f k. same_within _; can_down = λ m e f k. same_within _; eased = λ e. same_within _ }
monotone (present s p q) =
    let P = monotone p in
    let Q = monotone q in
    record {
      must_up = λ e f k. must_chosen (status_of e s) (status_of f s) _ _ _ _ (query_below e f s k) (P.must_up e f k)
          (Q.must_up e f k);
      can_down = λ m e f k. can_chosen (status_of e s) (status_of f s) _ _ _ _ _ _ (query_below e f s k)
          (P.can_down m e f k) (Q.can_down m e f k)
          (either_within _ _ _ _ (P.can_down maybe e f k) (Q.can_down maybe e f k))
          (then_within (P.can_down m e f k) (then_within (in_doubt p P m e) (left_within _ _)))
          (then_within (Q.can_down m e f k) (then_within (in_doubt q Q m e) (right_within _ _)));
      eased = λ e. can_chosen (status_of e s) (status_of e s) _ _ _ _ _ _ (inr refl) (P.eased e) (Q.eased e)
          (same_within _)
          (then_within (P.eased e) (left_within _ _)) (then_within (Q.eased e) (right_within _ _));
    }
monotone (suspend s p) = let P = monotone p in record { must_up = P.must_up; can_down = P.can_down; eased = P.eased }
monotone (held s p) =
    let P = monotone p in
    record {
      must_up = λ e f k. must_chosen (status_of e s) (status_of f s) _ _ _ _ (query_below e f s k)
          (same_within (just_code 1)) (P.must_up e f k);
      can_down = λ m e f k. can_chosen (status_of e s) (status_of f s) _ _ _ _ _ _ (query_below e f s k)
          (same_within (just_code 1)) (P.can_down m e f k)
          (stay_within _ _ (P.can_down maybe e f k)) (one_within _)
          (then_within (P.can_down m e f k) (then_within (in_doubt p P m e) (more_within _)));
      eased = λ e. can_chosen (status_of e s) (status_of e s) _ _ _ _ _ _ (inr refl) (same_within (just_code 1))
          (P.eased e) (same_within _)
          (one_within _) (then_within (P.eased e) (more_within _));
    }
monotone (seq p q) =
    let P = monotone p in
    let Q = monotone q in
    record {
      must_up = λ e f k. must_then_within _ _ _ _ (must_one p f) (P.must_up e f k) (Q.must_up e f k);
      can_down = λ m e f k. can_then_within _ _ _ _ (P.can_down m e f k)
          (then_within (Q.can_down (next_mode m ((must p f).codes 0)) e f k)
          (modes m ((must p e).codes 0) ((must p f).codes 0) ((P.must_up e f k).codes 0) q e Q.eased));
      eased = λ e. can_then_within _ _ _ _ (P.eased e) (in_doubt q Q (next_mode sure ((must p e).codes 0)) e);
    }
monotone (loop p) = let P = monotone p in record { must_up = P.must_up; can_down = P.can_down; eased = P.eased }
monotone (par p q) =
    let P = monotone p in
    let Q = monotone q in
    record {
      must_up = λ e f k. together_within _ _ _ _ (P.must_up e f k) (Q.must_up e f k);
      can_down = λ m e f k. together_within _ _ _ _ (P.can_down m e f k) (Q.can_down m e f k);
      eased = λ e. together_within _ _ _ _ (P.eased e) (Q.eased e);
    }
monotone (trap p) =
    let P = monotone p in
    record {
      must_up = λ e f k. out_of_trap_within _ _ (P.must_up e f k);
      can_down = λ m e f k. out_of_trap_within _ _ (P.can_down m e f k);
      eased = λ e. out_of_trap_within _ _ (P.eased e);
    }
monotone (signal s p) =
    let P = monotone p in
    record {
      must_up = λ e f k. hide_within s _ _ (P.must_up _ _ (sure_below s p P e f k));
      can_down = signal_down s p P;
      eased = signal_eased s p P;
    }
