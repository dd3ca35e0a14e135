-- What relations say of a part of the inputs.
use Rattle.std.proofs.Common.{◌≡◌, ◌≢◌, ◌∙◌, ℕ, Bool, true, false, ◌||◌, not, nat_eq, List}
use Rattle.std.proofs.Common.{sym, refl, inl, inr, None, length, get_or, subst, ◌<◌}
use Rattle.std.proofs.lemmas.List.Folds.{list_all_at}
use Rattle.std.specs.Prelude.{Some}
use Rattle.std.specs.List.{find, list_any}
use Rattle.std.proofs.lemmas.Bool.{cases_eq, cases_Bool, false≢true, or_left as or_first}
use Rattle.est_kernel.specs.Bits.{bits}
use Rattle.est_relations.specs.Keeping.{AreLawful, has_one_at_most, has_implied, keeps}
use Rattle.est_relations.specs.declared.relations.Relation.{Relation}
use Rattle.est_relations.proofs.Members.{one_means, one_where, found_is}
use Rattle.est_cover.specs.InputSets.{InputSet}
use Rattle.est_cover.specs.Inner.Parts.{HasPart, IsForced}
use Rattle.est_cover.specs.declared.forced.Forced.{Forced}
use Rattle.est_cover.specs.declared.forced.Forced.TheVariants.{Broken, Present, Absent}
use Rattle.est_cover.proofs.OneAtMost.{one_if_alone}

-- at most one is offered of fewer too
pub fewer_one : (f g : InputSet) (ms : List ℕ) → ((n : ℕ) → f n ≡ true → g n ≡ true) → has_one_at_most g ms ≡ true
    → has_one_at_most f ms ≡ true
fewer_one f g ms fewer h = one_where f ms (λ a b p q x y. one_means g ms h a b p q (fewer a x) (fewer b y))

-- of the first that is offered and another one, at most one is offered
pub not_another : (unasked inputs rest : ℕ) (ms : List ℕ) (m n : ℕ)
    → ((k : ℕ) → bits unasked k ≡ true → bits inputs k ≡ false)
    → find (bits inputs) ms ≡ Some m → bits rest m ≡ false → find (bits rest) ms ≡ Some n → (set : InputSet)
    → HasPart unasked inputs set → has_one_at_most set ms ≡ true → set n ≡ false
not_another unasked inputs rest ms m n apart first out second set has one = elim (cases_Bool (set n)) [
  | inl t ↦ absurd (different (one_means set ms one n m at_n.0 at_m.0 t offered))
  | inr e ↦ e
] where
  at_m : (list_any (nat_eq m) ms ≡ true) × (bits inputs m ≡ true)
  at_m = found_is (bits inputs) ms m first

  at_n : (list_any (nat_eq n) ms ≡ true) × (bits rest n ≡ true)
  at_n = found_is (bits rest) ms n second

  different : n ≢ m
  different e = absurd (false≢true (sym out ∙ (rw e at at_n.1)))

  known : bits unasked m ≡ false
  known = elim (cases_Bool (bits unasked m)) [
    | inl t ↦ absurd (false≢true (sym (apart m t) ∙ at_m.1))
    | inr f ↦ f
  ]

  offered : set m ≡ true
  offered = has m known ∙ at_m.1

-- the signals that are offered or unasked, without one of them
pub record AreRest (unasked inputs m rest : ℕ) : Type 0 where
  pub out : bits rest m ≡ false
  pub other : (k : ℕ) → k ≢ m → bits rest k ≡ (bits inputs k || bits unasked k)

or_left : (a b : Bool) → (a || b) ≡ true → b ≡ false → a ≡ true
or_left true b e h = refl
or_left false b e h = absurd (false≢true (sym h ∙ e))

-- where no other one is offered or unasked, at most one is offered
pub one_alone : (unasked inputs rest : ℕ) (ms : List ℕ) (m : ℕ) → AreRest unasked inputs m rest
    → find (bits inputs) ms ≡ Some m → find (bits rest) ms ≡ None → has_one_at_most (bits inputs) ms ≡ true
one_alone unasked inputs rest ms m r first none =
    fewer_one (bits inputs) (λ n. bits inputs n || bits unasked n) ms
    (λ n h. or_first (bits inputs n) (bits unasked n) h)
    (one_if_alone (λ n. bits inputs n || bits unasked n) (bits rest) ms m r.other none)

-- another one that is offered
pub is_offered : (unasked inputs rest : ℕ) (ms : List ℕ) (m n : ℕ) → AreRest unasked inputs m rest
    → find (bits rest) ms ≡ Some n → bits unasked n ≡ false → bits inputs n ≡ true
is_offered unasked inputs rest ms m n r second out = elim (cases_eq n m) [
  | inl e ↦ absurd (false≢true (sym r.out ∙ (rw e at at_n)))
  | inr d ↦ or_left (bits inputs n) (bits unasked n) (sym (r.other n d) ∙ at_n) out
] where
  at_n : bits rest n ≡ true
  at_n = (found_is (bits rest) ms n second).1

-- what is offered was asked
pub offered_is_asked : (unasked inputs : ℕ) → ((k : ℕ) → bits unasked k ≡ true → bits inputs k ≡ false) → (n : ℕ)
    → bits inputs n ≡ true → bits unasked n ≡ false
offered_is_asked unasked inputs apart n h = elim (cases_Bool (bits unasked n)) [
  | inl t ↦ absurd (false≢true (sym (apart n t) ∙ h))
  | inr f ↦ f
]

-- what is said of the sets that keep a relation is said of those that keep all
pub forced_of_all : (s : Forced) (rs : List Relation) (i : ℕ) (r : Relation) (unasked inputs : ℕ) → i < length rs
    → r ≡ get_or rs i r → IsForced s (λ set. keeps set r ≡ true) unasked inputs
    → IsForced s (AreLawful rs) unasked inputs
forced_of_all s rs i r unasked inputs within at forced = by s forced where
  one : (set : InputSet) → AreLawful rs set → keeps set r ≡ true
  one set all = elim (cases_Bool (keeps set r)) [
    | inl t ↦ t
    | inr f ↦ absurd (false≢true (sym (list_all_at (keeps set) rs i r within
        (subst (λ (x : Relation). keeps set x ≡ false) at f)) ∙ all))
  ]

  by : (s : Forced) → IsForced s (λ set. keeps set r ≡ true) unasked inputs → IsForced s (AreLawful rs) unasked inputs
  by Broken h = λ set has all. h set has (one set all)
  by (Present p) h = (h.0, λ set has all. h.1 set has (one set all))
  by (Absent p) h = (h.0, λ set has all. h.1 set has (one set all))

-- ---- implications

-- the implied one is there
pub implied_is : (set : InputSet) (a b : ℕ) → set b ≡ true → has_implied set a b ≡ true
unfolding has_implied
implied_is set a b h = rw h (at (not (set a))) where
  at : (x : Bool) → (x || true) ≡ true
  at true = refl
  at false = refl

-- nothing is implied
pub nothing_implied : (set : InputSet) (a b : ℕ) → set a ≡ false → has_implied set a b ≡ true
unfolding has_implied
nothing_implied set a b h = rw h refl

-- it is there with the condition
pub implies : (set : InputSet) (a b : ℕ) → has_implied set a b ≡ true → set a ≡ true → set b ≡ true
unfolding has_implied
implies set a b h is = rw is at h

-- and where it is not, the condition is not
pub implies_not : (set : InputSet) (a b : ℕ) → has_implied set a b ≡ true → set b ≡ false → set a ≡ false
implies_not set a b h is = elim (cases_Bool (set a)) [
  | inl t ↦ absurd (false≢true (sym is ∙ implies set a b h t))
  | inr f ↦ f
]
