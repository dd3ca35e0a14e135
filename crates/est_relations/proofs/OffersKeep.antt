-- An accepted offer keeps each exclusion: this follows from the definitions alone.
use Rattle.std.proofs.Common.{◌≡◌, ◌∙◌, ◌<◌, inl, inr, ℕ, zero, suc, ◌+◌, Bool, true, false, ◌&&◌, List}
use Rattle.std.proofs.Common.{[], ◌∷◌, length, take, Option, None, refl, sym, ap, arith}
use Rattle.std.specs.Prelude.{Some, Ok, Err, slice_get}
use Rattle.std.specs.List.{find, list_all}
use Rattle.std.proofs.lemmas.Bool.{cases_Bool, false≢true}
use Rattle.std.proofs.lemmas.Option.{get_or_from_slice_get}
use Rattle.refusal_rules.proofs.RuleLemmas.{all_passed}
use Rattle.est_kernel.specs.Bits.{bits}
use Rattle.est_kernel.specs.Interfaces.{offerable}
use Rattle.est_kernel.specs.declared.interface.Declaration.{Declaration}
use Rattle.est_relations.specs.Keeping.{has_one_at_most, keeps_exclusion}
use Rattle.est_relations.specs.Offers.{PendingInputs, place_of, with_place, KeepsExclusions, IsFirstExcluded}
use Rattle.est_relations.specs.Offers.{OfferAnswer, offer_rules, Adds}
use Rattle.est_relations.specs.declared.relations.Relation.{Relation}
use Rattle.est_relations.specs.declared.relations.Relation.TheVariants.{Exclusion, Implication}
use Rattle.est_relations.proofs.Members.{one_alone, found_is}
use Rattle.est_relations.proofs.FirstBroken.{with_bits, first_at}
use Rattle.est_relations.proofs.Answering.{kept_with, input_within, all_there}

-- the first that a test refuses
record FirstFailing {X : Type 0} (keep : X → Bool) (xs : List X) : Type 0 where
  place : ℕ
  failing : X
  within : place < length xs
  before : list_all keep (take place xs) ≡ true
  there : slice_get xs place ≡ Some failing
  fails : keep failing ≡ false

first_failing : {X : Type 0} (keep : X → Bool) (xs : List X) → list_all keep xs ≡ false → FirstFailing keep xs
first_failing keep [] h = absurd (false≢true (sym h))
first_failing keep (x ∷ xs) h = at_head (keep x) refl h (first_failing keep xs) where
  at_head : (b : Bool) → keep x ≡ b → (b && list_all keep xs) ≡ false
      → (list_all keep xs ≡ false → FirstFailing keep xs) → FirstFailing keep (x ∷ xs)
  at_head false e h later =
      record { place = 0; failing = x; within = omega arith; before = refl; there = refl; fails = e }
  at_head true e h later = let rest = later h in record {
    place = suc rest.place;
    failing = rest.failing;
    within = omega (arith, rest.within);
    before = rw e rest.before;
    there = rest.there;
    fails = rest.fails;
  }

-- a signal that is not refused as an output may be offered
input_there : (i : List Declaration) (n : ℕ) → (offerable i n ≡ false → ⊥) → offerable i n ≡ true
input_there i n o = elim (cases_Bool (offerable i n)) [ inl t ↦ t | inr f ↦ absurd (o f) ]

pub no_fault : {A E : Type 0} (x : A) (e : E) → Ok x ≡ Err e → ⊥
no_fault x e h = cc

declaration_at : (i : List Declaration) (n : ℕ) → n < length i → (d : Declaration) × (slice_get i n ≡ Some d)
declaration_at [] n h = absurd (omega arith)
declaration_at (d ∷ ds) zero h = (d, refl)
declaration_at (d ∷ ds) (suc n) h = declaration_at ds n (omega arith)

-- the exclusion of these members would not hold, so one of them is pending
some_pending : (members : List ℕ) (mask place : ℕ) → has_one_at_most (bits mask) members ≡ true
    → has_one_at_most (bits (with_place mask place)) members ≡ false → (m : ℕ) × (find (bits mask) members ≡ Some m)
some_pending members mask place kept broken = found (find (bits mask) members) refl where
  found : (o : Option ℕ) → find (bits mask) members ≡ o → (m : ℕ) × (find (bits mask) members ≡ Some m)
  found (Some m) e = (m, e)
  found None e =
      absurd (false≢true (sym broken ∙ one_alone (bits mask) (bits (with_place mask place)) members place
      (with_bits mask place) e))

-- where no exclusion can be named, each is kept
all_kept : (p : PendingInputs) (name : List ℕ) (place : ℕ) → KeepsExclusions p.interface p.relations p.inputs
    → place_of p.interface name ≡ Some place
    → ((number : ℕ) (signal : List ℕ) → IsFirstExcluded p name number signal → ⊥)
    → list_all (keeps_exclusion (bits (with_place p.inputs place))) p.relations ≡ true
all_kept p name place k there none =
    elim (cases_Bool (list_all (keeps_exclusion (bits (with_place p.inputs place))) p.relations)) [
      | inl t ↦ t
      | inr f ↦ let first = first_failing (keeps_exclusion (bits (with_place p.inputs place))) p.relations f in
          absurd (breaks first first.failing first.there first.fails)
    ] where
      breaks : (first : FirstFailing (keeps_exclusion (bits (with_place p.inputs place))) p.relations) (r : Relation)
          → slice_get p.relations first.place ≡ Some r
          → keeps_exclusion (bits (with_place p.inputs place)) r ≡ false → ⊥
      breaks first (Implication a b) at e = false≢true (sym e)
      breaks first (Exclusion members) at e =
          let was : has_one_at_most (bits p.inputs) members ≡ true =
          all_there (keeps_exclusion (bits p.inputs)) p.relations first.place (Exclusion members) k.kept at in
          let one = some_pending members p.inputs place was e in
          let signal = k.inputs one.0 (found_is (bits p.inputs) members one.0 one.1).1 in
          let d = declaration_at p.interface one.0 (input_within p.interface one.0 signal) in
          none (first.place + 1) d.0.name (record {
            place = place;
            there = there;
            member = one.0;
            broken = record {
              index = first.place;
              numbered = refl;
              first = first_at (keeps_exclusion
                  (bits (with_place p.inputs place))) p.relations first.place first.failing first.within first.before
                  (ap (keeps_exclusion (bits (with_place p.inputs place)))
                  (get_or_from_slice_get p.relations first.place first.failing first.failing first.there)
                  ∙ first.fails);
              members = members;
              is = at;
              pending = one.1;
            };
            named = record { declaration = d.0; there = d.1; named = refl };
          })

-- an accepted offer keeps each exclusion
pub offer_keeps : (before after : PendingInputs) (name : List ℕ)
    → KeepsExclusions before.interface before.relations before.inputs
    → OfferAnswer before name (Ok (record {})) after → KeepsExclusions after.interface after.relations after.inputs
offer_keeps before after name k answer =
    let all = all_passed (offer_rules before name) (λ refusal. (Ok (record {}) ≡ Err refusal) × (after ≡ before))
    ((Ok (record {}) ≡ Ok (record {})) × Adds before name after)
    (λ refusal h. no_fault (record {}) refusal h.0) answer in
    let adds = all.1.1 in
    let input : offerable before.interface adds.place ≡ true = input_there before.interface adds.place
    (λ o. all.0.1.0 (record { place = adds.place; there = adds.there; output = o })) in
    rw adds.added
    (kept_with before.interface before.relations before.inputs adds.place k input
    (all_kept before name adds.place k adds.there (λ number signal. all.0.1.1.1.0 (number, signal))))
