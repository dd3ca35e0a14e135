-- At least n roles are in a set exactly when it has at least n places.
use Rattle.std.proofs.Common.{◌≡◌, ◌≢◌, ℕ, zero, suc, ◌+◌, ◌-◌, ◌<◌, ◌≤◌, List, [], ◌∷◌, length, cond, true, false}
use Rattle.std.proofs.Common.{Bool, arith, sym, ◌∙◌, ap, refl, subst, inl, inr}
use Rattle.std.specs.Prelude.{slice_get, Option, Some, ◌==◌}
use Rattle.std.specs.Int.{bit_at}
use Rattle.std.specs.List.{All, AllPairs}
use Rattle.std.proofs.lemmas.Bool.{cases_eq}
use Rattle.std.proofs.lemmas.Bool.Decides.{Decides-eqb}
use Rattle.std.proofs.lemmas.List.Kept.{AllPairs-cons}
use Rattle.std.proofs.lemmas.Option.{slice_get_within, get_or_from_slice_get}
use Rattle.rbac_closure.specs.Sets.{Has, places_before, places_of}
use Rattle.rbac_closure.proofs.CountLemmas.{one_more, no_more}
use Rattle.rbac_policy.specs.declared.sizes.TheConstants.{ROLES}
use Rattle.rbac_policy.specs.Names.{NameText}
use Rattle.rbac_policy.specs.Counting.{HasAtLeast}
use Rattle.rbac_policy.specs.Tables.{At}
use Rattle.rbac_policy.specs.StandsFor.{InMask, IsNamed}
use Rattle.rbac_policy.proofs.OfRoles.Order.{one_role}
use Rattle.rbac_policy.proofs.OfSlots.Room.{pigeons}

no_places : (set : ℕ) → places_before zero set ≡ []
unfolding places_before
no_places set = refl

-- each place of the set is listed
listed_place : (n set p : ℕ) → p < n → Has set p → (at : ℕ) × (slice_get (places_before n set) at ≡ Some p)
listed_place zero set p low has = absurd (omega (arith, low))
listed_place (suc n) set p low has = elim (cases_eq p n) [
  | inl e ↦ (0, ap (λ xs. slice_get xs 0) (one_more n set (subst (Has set) e has)) ∙ ap Some (sym e))
  | inr d ↦
      let rest = listed_place n set p (omega (arith, low, d)) has in
      elim (cases_eq (bit_at set n) 1) [
        | inl here ↦ (suc rest.0, ap (λ xs. slice_get xs (suc rest.0)) (one_more n set here) ∙ rest.1)
        | inr none ↦ (rest.0, ap (λ xs. slice_get xs rest.0) (no_more n set none) ∙ rest.1)
      ]
]

pub fewer : {A : Type 0} (P : A → Type 0) (n k : ℕ) → HasAtLeast (k + n) P → HasAtLeast n P
fewer P n zero h = subst (λ i. HasAtLeast i P) (omega arith) h
fewer {A = A} P n (suc k) h = fewer P n k (by_values h.values h.distinct h.have h.enough) where
  by_values : (xs : List A) → AllPairs (λ x y. x ≢ y) xs → All P xs → length xs ≡ suc k + n → HasAtLeast (k + n) P
  by_values [] distinct have e = absurd (omega (arith, e))
  by_values (x ∷ xs) distinct have e = record {
    values = xs;
    distinct = λ p q d low within. distinct (suc p) (suc q) d (omega arith) (omega arith);
    have = λ p d within. have (suc p) d (omega arith);
    enough = omega (arith, e);
  }

module _ (roles : List (Option NameText)) (unique : (p q : ℕ) (r : NameText) → At roles p r → At roles q r → p ≡ q)
    (many : length roles ≡ ROLES) (set : ℕ) where
  -- the role is at a place of the set before this one
  record IsBefore (n : ℕ) (r : NameText) : Type 0 where
    place : ℕ
    there : At roles place r
    bit : Has set place
    low : place < n

  -- as many roles as there are places before this one
  record Roles (n : ℕ) : Type 0 where
    values : List NameText
    distinct : AllPairs (λ x y. x ≢ y) values
    have : All (IsBefore n) values
    enough : length values ≡ length (places_before n set)

  wider : (n : ℕ) (xs : List NameText) → All (IsBefore n) xs → All (IsBefore (suc n)) xs
  wider n xs have = λ p d within. let b = have p d within in
      record { place = b.place; there = b.there; bit = b.bit; low = omega (arith, b.low) }

  roles_of_places : (named : IsNamed roles set) (n : ℕ) → Roles n
  roles_of_places named zero = record {
    values = [];
    distinct = λ p q d low within. absurd (omega arith);
    have = λ p d within. absurd (omega arith);
    enough = sym (ap length (no_places set));
  }
  roles_of_places named (suc n) =
      let rest = roles_of_places named n in
      elim (cases_eq (bit_at set n) 1) [
        | inl here ↦
            let r = named n here in
            record {
              values = r.0 ∷ rest.values;
              distinct = AllPairs-cons (λ x y. x ≢ y) r.0 rest.values (λ p d within same.
                  let b = rest.have p d within in
                  absurd (omega (arith, b.low, unique b.place n r.0 (subst (At roles b.place) (sym same) b.there) r.1)))
                  rest.distinct;
              have = first n r.0 rest.values (record { place = n; there = r.1; bit = here; low = omega arith })
                  (wider n rest.values rest.have);
              enough = ap suc rest.enough ∙ sym (ap length (one_more n set here));
            }
        | inr none ↦ record {
          values = rest.values;
          distinct = rest.distinct;
          have = wider n rest.values rest.have;
          enough = rest.enough ∙ sym (ap length (no_more n set none));
        }
      ] where
        first : (n : ℕ) (x : NameText) (xs : List NameText) → IsBefore (suc n) x → All (IsBefore (suc n)) xs
            → All (IsBefore (suc n)) (x ∷ xs)
        first n x xs b have zero d within = b
        first n x xs b have (suc p) d within = have p d (omega arith)

  pub as_many_roles : (n : ℕ) → IsNamed roles set → n ≤ length (places_of set) → HasAtLeast n (InMask roles set)
  as_many_roles n named few =
      let all = roles_of_places named ROLES in
      let whole : HasAtLeast (length (places_of set)) (InMask roles set) = record {
        values = all.values;
        distinct = all.distinct;
        have = λ p d within. let b = all.have p d within in record { place = b.place; there = b.there; bit = b.bit };
        enough = all.enough;
      } in
      let k : ℕ = length (places_of set) - n in
      fewer (InMask roles set) n k (subst (λ i. HasAtLeast i (InMask roles set)) (omega (arith, few)) whole)

  pub as_many_places : (n : ℕ) → HasAtLeast n (InMask roles set) → n ≤ length (places_of set)
  as_many_places n h =
      let kept = pigeons (λ (r : NameText) (p : ℕ). At roles p r) (λ x y p a b. one_role roles p x y a b) h.values
      (places_of set) h.distinct (λ p r there.
      let i = subst (InMask roles set) (get_or_from_slice_get h.values p r r there)
      (h.have p r (slice_get_within h.values p r there)) in
      let l = listed_place ROLES set i.place (omega (arith, slice_get_within roles i.place (Some r) i.there, many))
      i.bit in
      record { at = l.0; value = i.place; there = l.1; by = i.there }) in
      omega (arith, kept, h.enough)
