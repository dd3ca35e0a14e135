-- The first name of a list that has a property.
use Rattle.std.proofs.Common.{◌≡◌, ℕ, zero, suc, ◌+◌, ◌<◌, ◌≤◌, ◌⊎◌, List, length, inl, inr, arith, sym, ◌∙◌, ap, subst}
use Rattle.std.specs.Prelude.{Some, slice_get, take}
use Rattle.std.proofs.lemmas.Option.{slice_get_within}
use Rattle.rbac_policy.specs.Names.{NameText}
use Rattle.rbac_admin.specs.Conditions.{FirstListed}
use Rattle.std.proofs.Math.Nat.{eq-or-lt_of_le}
use Rattle.std.proofs.lemmas.List.{length-take, get_or-take}
use Rattle.std.proofs.lemmas.Option.{slice_get-get_or, get_or_from_slice_get}
use Rattle.std.specs.Prelude.{Contains}

-- no name before this place has the property
pub record NoneBefore (P : List NameText → NameText → Type 0) (names : List NameText) (place : ℕ) : Type 0 where
  pub none : (k : ℕ) (name : NameText) → k < place → slice_get names k ≡ Some name → P (take k names) name → ⊥

module _ (P : List NameText → NameText → Type 0) (names : List NameText) where
  pub none_at_first : NoneBefore P names 0
  none_at_first = record { none = λ k name low there has. omega arith }

  pub first_here : (place : ℕ) (name : NameText) → NoneBefore P names place → slice_get names place ≡ Some name
      → P (take place names) name → FirstListed P names name
  first_here place name before there has = record { at = place; there = there; has = has; first = before.none }

  -- one place more
  pub none_further : (place : ℕ) → NoneBefore P names place
      → ((name : NameText) → slice_get names place ≡ Some name → P (take place names) name → ⊥)
      → NoneBefore P names (place + 1)
  none_further place before here =
      record { none = λ k name low there has. by_place k name there has (eq-or-lt_of_le (omega arith)) } where
        by_place : (k : ℕ) (name : NameText) → slice_get names k ≡ Some name → P (take k names) name
            → (k ≡ place) ⊎ (k < place) → ⊥
        by_place k name there has which = elim which [
          | inr low ↦ before.none k name low there has
          | inl same ↦ (let Q : ℕ → Type 0 = λ j. (slice_get names j ≡ Some name) × P (take j names) name in
              let q : Q place = subst Q same (there, has) in here name q.0 q.1)
        ]

  pub none_at_all : (place : ℕ) → length names ≤ place → NoneBefore P names place → (name : NameText)
      → FirstListed P names name → ⊥
  none_at_all place whole before name first = before.none first.at name
      (omega (arith, slice_get_within names first.at name first.there)) first.there first.has

-- where no name is the first with the property, none has it
pub none_anywhere : (P : List NameText → NameText → Type 0) (names : List NameText)
    → ((name : NameText) → FirstListed P names name → ⊥) → (place : ℕ) → NoneBefore P names place
none_anywhere P names none zero = none_at_first P names
none_anywhere P names none (suc place) =
    let before = none_anywhere P names none place in
    let further =
    none_further P names place before
    (λ name there has. none name (first_here P names place name before there has)) in
    record { none = λ k name low. further.none k name (omega arith) }

-- what stands before a place
pub taken : (names : List NameText) (n k : ℕ) (name : NameText) → k < n → slice_get names k ≡ Some name
    → Contains (take n names) name
taken names n k name low there =
    let within = slice_get_within names k name there in (
      k,
      omega (arith, length-take n names),
      get_or-take n names k name low
          ∙ get_or_from_slice_get names k name name there,
    )

pub was_taken : (names : List NameText) (n : ℕ) (name : NameText) → Contains (take n names) name
    → (k : ℕ) × k < n × slice_get names k ≡ Some name
was_taken names n name h =
    let low : h.0 < n = omega (arith, length-take n names, h.1) in
    let within : h.0 < length names = omega (arith, length-take n names, h.1) in
    (h.0, low, slice_get-get_or names h.0 name within ∙ ap Some (sym (get_or-take n names h.0 name low) ∙ h.2))
