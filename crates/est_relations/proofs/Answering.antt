-- The answers to an offer, and to whether an instant may take the pending inputs.
use Rattle.std.proofs.Common.{◌≡◌, ◌∙◌, ◌<◌, inl, inr, ℕ, zero, suc, Bool, true, false, not, ◌&&◌, nat_eq, nat_lt, cond}
use Rattle.std.proofs.Common.{List, [], ◌∷◌, length, get_or, None, refl, sym, ap, arith}
use Rattle.std.specs.Prelude.{Some, Ok, Err, position, slice_get}
use Rattle.std.specs.List.{list_all, position_or_len}
use Rattle.std.proofs.lemmas.Bool.{cases_lt, false≢true}
use Rattle.std.proofs.lemmas.Bool.Decides.{nat_tests}
use Rattle.std.proofs.lemmas.List.{take_all}
use Rattle.std.proofs.lemmas.List.Sums.{position_or_len_is}
use Rattle.std.proofs.lemmas.Option.{same_Some}
use Rattle.refusal_rules.proofs.RuleLemmas.{refuse, pass}
use Rattle.est_kernel.specs.Bits.{bits}
use Rattle.est_kernel.specs.Interfaces.{can_be_offered, offerable}
use Rattle.est_kernel.specs.declared.interface.Declaration.{Declaration}
use Rattle.est_kernel.proofs.Interfaces.{declares_beyond}
use Rattle.est_kernel.proofs.Masks.{bits_zero}
use Rattle.est_relations.specs.Inner.Names.{IsNewInput, RefusesName}
use Rattle.est_relations.specs.Keeping.{keeps, keeps_exclusion, has_one_at_most, is_within, AreOverInputs}
use Rattle.est_relations.specs.Offers.{PendingInputs, place_of, with_place, KeepsExclusions, IsSignalName, IsOutputName}
use Rattle.est_relations.specs.Offers.{IsPendingName, IsFirstBroken, IsFirstLacking, OfferAnswer, ReadyAnswer}
use Rattle.est_relations.specs.declared.refusal.PendingRefusal.{PendingRefusal}
use Rattle.est_relations.specs.declared.refusal.PendingRefusal.TheVariants.{UnknownSignal, NotInput, AlreadyOffered}
use Rattle.est_relations.specs.declared.refusal.PendingRefusal.TheVariants.{Excluded, Implied}
use Rattle.est_relations.specs.declared.relations.Relation.{Relation}
use Rattle.est_relations.specs.declared.relations.Relation.TheVariants.{Exclusion, Implication}
use Rattle.est_relations.proofs.Members.{found_is, one_where, or_true, nat_same}
use Rattle.est_relations.proofs.FirstBroken.{kept_at, with_bits}

-- ---- lists

position_end : {X : Type 0} (keep : X → Bool) (ys : List X)
    → ((k : ℕ) (d : X) → k < length ys → not (keep (get_or ys k d)) ≡ false)
    → position_or_len (λ x. not (keep x)) ys ≡ length ys
position_end keep [] g = refl
position_end keep (y ∷ ys) g =
    position_or_len_is (λ x. not (keep x)) (y ∷ ys) (length (y ∷ ys)) y (omega arith) (λ k lt. g k y lt)
    (λ lt. absurd (omega (arith, lt)))

-- where each passes, there is no first one that does not
none_first : {X : Type 0} (keep : X → Bool) (xs : List X) (n : ℕ) → list_all keep xs ≡ true
    → position (λ x. not (keep x)) xs ≡ Some n → ⊥
none_first keep xs n h p = at_end (length xs) (position_or_len (λ x. not (keep x)) xs) n
    (position_end keep xs each) p where
      each : (k : ℕ) (d : _) → k < length xs → not (keep (get_or xs k d)) ≡ false
      each k d lt = ap not (kept_at keep xs (length xs) k d (omega arith) lt
          (ap (list_all keep) (take_all (length xs) xs (omega arith)) ∙ h))

      at_end : (l at n : ℕ) → at ≡ l → cond (nat_lt at l) (Some at) None ≡ Some n → ⊥
      at_end l at n e p = grind (arith, nat_tests)

pub and_first : (a b : Bool) → (a && b) ≡ true → a ≡ true
and_first true b h = refl
and_first false b h = h

pub and_second : (a b : Bool) → (a && b) ≡ true → b ≡ true
and_second true b h = h
and_second false b h = absurd (false≢true h)

-- what holds of all holds at a place
pub all_there : {X : Type 0} (test : X → Bool) (xs : List X) (n : ℕ) (x : X) → list_all test xs ≡ true
    → slice_get xs n ≡ Some x → test x ≡ true
all_there test [] n x h s = cc
all_there test (y ∷ ys) zero x h s = let same : y ≡ x = cc in rw (← same) (and_first (test y) (list_all test ys) h)
all_there test (y ∷ ys) (suc n) x h s = all_there test ys n x (and_second (test y) (list_all test ys) h) s

-- ---- signals

pub input_within : (i : List Declaration) (n : ℕ) → offerable i n ≡ true → n < length i
input_within i n h = elim (cases_lt n (length i)) [
  | inl lt ↦ lt
  | inr le ↦ absurd (false≢true (sym (declares_beyond can_be_offered i n le) ∙ h))
]

same_place : (i : List Declaration) (name : List ℕ) (m n : ℕ) → place_of i name ≡ Some m → place_of i name ≡ Some n
    → m ≡ n
same_place i name m n p q = same_Some m n (sym p ∙ q)

-- ---- what is pending

none_breaks : (rs : List Relation) → list_all (keeps_exclusion (bits 0)) rs ≡ true
none_breaks [] = refl
none_breaks (Exclusion members ∷ rs) =
    let one : has_one_at_most (bits 0) members ≡ true =
    one_where (bits 0) members (λ a b p q x y. absurd (false≢true (sym (bits_zero a) ∙ x))) in
    rw one (none_breaks rs)
none_breaks (Implication a b ∷ rs) = none_breaks rs

-- where nothing is pending, each exclusion is kept
pub nothing_pending : (i : List Declaration) (rs : List Relation) → AreOverInputs i rs → KeepsExclusions i rs 0
nothing_pending i rs h = record {
  over_inputs = h;
  inputs = λ n b. absurd (false≢true (sym (bits_zero n) ∙ b));
  kept = none_breaks rs;
}

-- and where an input comes that keeps them
pub kept_with : (i : List Declaration) (rs : List Relation) (mask place : ℕ) → KeepsExclusions i rs mask
    → offerable i place ≡ true → list_all (keeps_exclusion (bits (with_place mask place))) rs ≡ true
    → KeepsExclusions i rs (with_place mask place)
kept_with i rs mask place k input h = record {
  over_inputs = k.over_inputs;
  inputs = λ n b. elim (or_true (bits mask n) (nat_eq place n) (sym (with_bits mask place n) ∙ b)) [
    | inl was ↦ k.inputs n was
    | inr comes ↦ ap (offerable i) (sym (nat_same place n comes)) ∙ input
  ];
  kept = h;
}

-- the member that is named is a signal of the interface
pub member_within : (i : List Declaration) (rs : List Relation) (mask place number m : ℕ) → KeepsExclusions i rs mask
    → IsFirstBroken rs mask place number m → m < length i
member_within i rs mask place number m k b = input_within i m
    (k.inputs m (found_is (bits mask) b.members m b.pending).1)

-- so is the signal that is missing
pub missing_within : (i : List Declaration) (rs : List Relation) (mask number m : ℕ) → AreOverInputs i rs
    → IsFirstLacking rs mask number m → m < length i
missing_within i rs mask number m h l =
    let over : (offerable i l.condition.index && offerable i l.missing.index) ≡ true =
    all_there (is_within (offerable i)) rs l.index (Implication l.condition l.missing) h l.is in
    input_within i m
    (ap (offerable i) l.place ∙ and_second (offerable i l.condition.index) (offerable i l.missing.index) over)

-- ---- the answers

not_output : (i : List Declaration) (name : List ℕ) (place : ℕ) → place_of i name ≡ Some place
    → offerable i place ≡ true → IsOutputName i name → ⊥
not_output i name place there input o =
    false≢true (sym o.output ∙ (ap (offerable i) (same_place i name o.place place o.there there) ∙ input))

not_pending : (i : List Declaration) (mask : ℕ) (name : List ℕ) (place : ℕ) → place_of i name ≡ Some place
    → bits mask place ≡ false → IsPendingName i mask name → ⊥
not_pending i mask name place there new o =
    false≢true (sym new ∙ (ap (bits mask) (same_place i name place o.place there o.there) ∙ o.pending))

no_name : (i : List Declaration) (name : List ℕ) → place_of i name ≡ None → IsSignalName i name → ⊥
no_name i name none s = none_some (sym none ∙ s.there) where
  none_some : {n : ℕ} → None ≡ Some n → ⊥
  none_some h = cc

-- an offer is refused by its name
pub refused_name : (p : PendingInputs) (name : List ℕ) (e : PendingRefusal)
    → KeepsExclusions p.interface p.relations p.inputs
    → RefusesName p.interface p.inputs name e → OfferAnswer p name (Err e) p
refused_name p name UnknownSignal k h = refuse UnknownSignal (refl, no_name p.interface name h) (refl, refl)
refused_name p name NotInput k h =
    pass (record { place = h.place; there = h.there })
    (refuse NotInput (refl, h) (refl, refl))
refused_name p name AlreadyOffered k h =
    pass (record { place = h.place; there = h.there })
    (pass (not_output p.interface name h.place h.there (k.inputs h.place h.pending))
    (refuse AlreadyOffered (refl, h) (refl, refl)))
refused_name p name (Excluded r s) k h = absurd h
refused_name p name (Implied r s) k h = absurd h

-- an offer is refused by an exclusion
pub refused_member : (p : PendingInputs) (name : List ℕ) (place number m : ℕ) (d : Declaration)
    → IsNewInput p.interface p.inputs name place → IsFirstBroken p.relations p.inputs place number m
    → slice_get p.interface m ≡ Some d
    → OfferAnswer p name (Err (Excluded number d.name)) p
refused_member p name place number m d new broken there =
    pass (record { place = place; there = new.there })
    (pass (not_output p.interface name place new.there new.input)
    (pass (not_pending p.interface p.inputs name place new.there new.new)
    (refuse (Excluded number d.name) (
      (number, d.name),
      refl,
      record {
        place = place;
        there = new.there;
        member = m;
        broken = broken;
        named = record { declaration = d; there = there; named = refl };
      },
    ) (refl, refl))))

-- an offer is accepted
pub accepted : (p : PendingInputs) (name : List ℕ) (place : ℕ) (after : PendingInputs)
    → IsNewInput p.interface p.inputs name place → list_all
    (keeps_exclusion (bits (with_place p.inputs place))) p.relations
    ≡ true
    → after ≡ record { interface = p.interface; relations = p.relations; inputs = with_place p.inputs place }
    → OfferAnswer p name (Ok (record {})) after
accepted p name place after new h is =
    pass (record { place = place; there = new.there })
    (pass (not_output p.interface name place new.there new.input)
    (pass (not_pending p.interface p.inputs name place new.there new.new)
    (pass (λ e f. none_first (keeps_exclusion (bits (with_place p.inputs place))) p.relations f.broken.index h
    (ap (λ n. position (λ r. not (keeps_exclusion (bits (with_place p.inputs n)) r)) p.relations)
    (same_place p.interface name place f.place new.there f.there) ∙ f.broken.first))
    (refl, record { place = place; there = new.there; added = is }))))

-- an instant may not take what is pending
pub not_ready : (p : PendingInputs) (number m : ℕ) (d : Declaration) → IsFirstLacking p.relations p.inputs number m
    → slice_get p.interface m ≡ Some d
    → ReadyAnswer p (Err (Implied number d.name))
not_ready p number m d l there =
    refuse (Implied number d.name) (
      (number, d.name),
      refl,
      record {
        implied = m;
        lacking = l;
        named = record { declaration = d; there = there; named = refl };
      },
    ) refl

-- an instant may take what is pending
pub all_hold : (p : PendingInputs) → list_all (keeps (bits p.inputs)) p.relations ≡ true
    → ReadyAnswer p (Ok (record {}))
all_hold p h = pass (λ e f. none_first (keeps (bits p.inputs)) p.relations f.lacking.index h f.lacking.first) (refl, h)
