-- Slots after a map or a write, free slots, and masks with one more place.
use Rattle.std.proofs.Common.{◌≡◌, ℕ, zero, suc, ◌<◌, ◌⊎◌, ◌↔◌, List, [], ◌∷◌, length, map, set, inl, inr, arith, sym}
use Rattle.std.proofs.Common.{◌∙◌, ap, refl, subst, true}
use Rattle.std.specs.Prelude.{slice_get, Option, Some, None, option_map, position, is_none}
use Rattle.std.proofs.lemmas.Bool.{cases_eq, false≢true}
use Rattle.std.proofs.lemmas.Nat.Bits.{bit_at-zero}
use Rattle.std.proofs.lemmas.Option.{slice_get-map, same_Some, slice_get-get_or}
use Rattle.std.proofs.lemmas.List.Quantifiers.{position-Some}
use Rattle.rbac_closure.proofs.SetLemmas.{with_same, with_other, has_without}
use Rattle.rbac_closure.specs.Sets.{with_place, without_place}
use Rattle.rbac_policy.specs.declared.sizes.TheConstants.{ROLES}
use Rattle.rbac_policy.specs.Names.{NameText}
use Rattle.rbac_policy.specs.Tables.{At}
use Rattle.rbac_policy.specs.StandsFor.{InMask, IsNamed}
use Rattle.rbac_policy.proofs.OfRoles.Order.{one_role}

pub get_set_same : {X : Type 0} (xs : List X) (i : ℕ) (y : X) → i < length xs → slice_get (set xs i y) i ≡ Some y
get_set_same [] i y h = absurd (omega arith)
get_set_same (x ∷ xs) zero y h = refl
get_set_same (x ∷ xs) (suc i) y h = get_set_same xs i y (omega arith)

pub get_set_other : {X : Type 0} (xs : List X) (i k : ℕ) (y : X) → (k ≡ i → ⊥)
    → slice_get (set xs i y) k ≡ slice_get xs k
get_set_other [] i k y h = refl
get_set_other (x ∷ xs) zero zero y h = absurd (h refl)
get_set_other (x ∷ xs) zero (suc k) y h = refl
get_set_other (x ∷ xs) (suc i) zero y h = refl
get_set_other (x ∷ xs) (suc i) (suc k) y h = get_set_other xs i k y (λ e. h (omega arith))

-- a filled slot after a map was filled before it
pub record Mapped {X : Type 0} (f : Option X → Option X) (slots : List (Option X)) (at : ℕ) (y : X) : Type 0 where
  pub value : X
  pub there : At slots at value
  pub gives : f (Some value) ≡ Some y

pub mapped : {X : Type 0} (f : Option X → Option X) (slots : List (Option X)) (at : ℕ) (y : X) → f None ≡ None
    → At (map f slots) at y → Mapped f slots at y
mapped {X = X} f slots at y none there = by_slot (slice_get slots at) refl where
  by_slot : (o : Option (Option X)) → slice_get slots at ≡ o → Mapped f slots at y
  by_slot None e = absurd (cc (slice_get-map f slots at, ap (option_map f) e, there))
  by_slot (Some None) e = absurd (cc (slice_get-map f slots at, ap (option_map f) e, there, none))
  by_slot (Some (Some x)) e =
      record {
        value = x;
        there = e;
        gives = same_Some (f (Some x)) (Some y)
            (sym (slice_get-map f slots at ∙ ap (option_map f) e) ∙ there);
      }

pub map_at : {X : Type 0} (f : Option X → Option X) (slots : List (Option X)) (at : ℕ) (x y : X) → At slots at x
    → f (Some x) ≡ Some y → At (map f slots) at y
map_at f slots at x y there gives = slice_get-map f slots at ∙ ap (option_map f) there ∙ ap Some gives

-- a filled slot after a write is the new value, or was there
pub written : {X : Type 0} (slots : List (Option X)) (i at : ℕ) (new y : X) → i < length slots
    → At (set slots i (Some new)) at y → ((at ≡ i) × (new ≡ y)) ⊎ At slots at y
written slots i at new y within there = elim (cases_eq at i) [
  | inl e ↦
      inl (
        e,
        cc (
          get_set_same slots i (Some new) within,
          subst (λ k. slice_get (set slots i (Some new)) k ≡ Some (Some y)) e
              there,
        ),
      )
  | inr ne ↦ inr (sym (get_set_other slots i at (Some new) ne) ∙ there)
]

-- the first free slot
pub record Free {X : Type 0} (slots : List (Option X)) (i : ℕ) : Type 0 where
  pub within : i < length slots
  pub empty : slice_get slots i ≡ Some None

is_nothing : {X : Type 0} (o : Option X) → is_none o ≡ true → o ≡ None
is_nothing None h = refl
is_nothing (Some x) h = absurd (false≢true h)

pub free : {X : Type 0} (slots : List (Option X)) (i : ℕ) → position is_none slots ≡ Some i → Free slots i
free slots i h =
    let p = position-Some is_none slots i None h in
    record { within = p.0; empty = slice_get-get_or slots i None p.0 ∙ ap Some (is_nothing _ p.1) }

module _ (roles : List (Option NameText)) (unique : (p q : ℕ) (r : NameText) → At roles p r → At roles q r → p ≡ q)
    (p0 : ℕ) (r0 : NameText) (there : At roles p0 r0) (low : p0 < ROLES) where
  pub in_with_place : (m : ℕ) (r : NameText) → InMask roles (with_place m p0) r ↔ ((r0 ≡ r) ⊎ InMask roles m r)
  in_with_place m r = (
    λ i. elim (cases_eq i.place p0) [
      | inl e ↦ inl (one_role roles p0 r0 r there (subst (λ k. At roles k r) e i.there))
      | inr ne ↦ inr (record { place = i.place; there = i.there; bit = sym (with_other m p0 i.place ne) ∙ i.bit })
    ],
    λ h. elim h [
      | inl e ↦ record { place = p0; there = subst (At roles p0) e there; bit = with_same m p0 }
      | inr i ↦ elim (cases_eq i.place p0) [
        | inl e ↦ record { place = p0; there = subst (λ k. At roles k r) e i.there; bit = with_same m p0 }
        | inr ne ↦ record { place = i.place; there = i.there; bit = with_other m p0 i.place ne ∙ i.bit }
      ]
    ],
  )

  pub named_with_place : (m : ℕ) → IsNamed roles m → IsNamed roles (with_place m p0)
  named_with_place m n = λ p bit. elim (cases_eq p p0) [
    | inl e ↦ (r0, subst (λ k. At roles k r0) (sym e) there)
    | inr ne ↦ n p (sym (with_other m p0 p ne) ∙ bit)
  ]

  pub in_without_place : (m : ℕ) (r : NameText) → InMask roles (without_place m p0) r
      ↔ (InMask roles m r × (r0 ≡ r → ⊥))
  in_without_place m r = (
    λ i. let h = (has_without m p0 i.place).0 i.bit in (
      record { place = i.place; there = i.there; bit = h.0 },
      λ same. h.1 (unique i.place p0 r i.there (subst (At roles p0) same there)),
    ),
    λ h. record {
      place = h.0.place;
      there = h.0.there;
      bit = (has_without m p0 h.0.place).1
          (h.0.bit, λ e. h.1 (one_role roles p0 r0 r there (subst (λ k. At roles k r) e h.0.there)));
    },
  )

  pub named_without_place : (m : ℕ) → IsNamed roles m → IsNamed roles (without_place m p0)
  named_without_place m n = λ p bit. n p ((has_without m p0 p).0 bit).0

pub none_in_zero : (roles : List (Option NameText)) (r : NameText) → InMask roles 0 r → ⊥
none_in_zero roles r i = omega (arith, i.bit, bit_at-zero i.place)

pub zero_named : (roles : List (Option NameText)) → IsNamed roles 0
zero_named roles = λ p bit. absurd (omega (arith, bit, bit_at-zero p))
