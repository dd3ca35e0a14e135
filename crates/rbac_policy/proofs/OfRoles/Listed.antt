-- The mask of listed roles.
use Rattle.std.proofs.Common.{◌≡◌, ℕ, zero, suc, ◌<◌, ◌⊎◌, ◌↔◌, List, [], ◌∷◌, length, fold, cond, inl, inr, arith, sym}
use Rattle.std.proofs.Common.{◌∙◌, ap, refl, subst, true, false, Bool}
use Rattle.std.specs.Prelude.{slice_get, Option, Some, None, Contains, slice_index_or}
use Rattle.std.specs.List.{position_or_len}
use Rattle.std.proofs.lemmas.Slice.Eq.{bytes_eq-Decides}
use Rattle.std.proofs.lemmas.Bool.{false≢true}
use Rattle.std.proofs.lemmas.Bool.Decides.{Decides-ltb}
use Rattle.std.proofs.lemmas.Option.{same_Some, slice_get_within, slice_get-get_or}
use Rattle.std.proofs.lemmas.List.Quantifiers.{position-Some}
use Rattle.rbac_policy.specs.declared.sizes.TheConstants.{ROLES}
use Rattle.rbac_policy.specs.Names.{NameText}
use Rattle.rbac_policy.specs.Tables.{At, with_found_place, place_of, role_is, mask_of}
use Rattle.rbac_policy.specs.StandsFor.{InMask, IsNamed}
use Rattle.rbac_policy.proofs.OfSlots.Slots.{in_with_place, named_with_place, none_in_zero, zero_named}

pub position_within : {X : Type 0} (p : X → Bool) (xs : List X) (at : ℕ) (x : X) → slice_get xs at ≡ Some x → p x ≡ true
    → position_or_len p xs < length xs
position_within p [] at x there t = cc
position_within p (y ∷ ys) zero x there t = rw (ap p (same_Some y x there) ∙ t) (omega arith)
position_within {X = X} p (y ∷ ys) (suc at) x there t = by_test (position_within p ys at x there t) (p y) refl where
  by_test : position_or_len p ys < length ys → (b : Bool) → p y ≡ b → position_or_len p (y ∷ ys) < length (y ∷ ys)
  by_test rest true e = rw e (omega arith)
  by_test rest false e = rw e (omega arith)

-- the role at a place is found, at a place that has it
pub record Placed (roles : List (Option NameText)) (r : NameText) : Type 0 where
  pub place : ℕ
  pub found : place_of r roles ≡ Some place
  pub there : At roles place r

pub placed : (roles : List (Option NameText)) (p : ℕ) (r : NameText) → At roles p r → Placed roles r
placed roles p r there =
    let within = position_within (role_is r) roles p (Some r) there ((bytes_eq-Decides r r).1 refl) in
    let q = position_or_len (role_is r) roles in
    let found : place_of r roles ≡ Some q = ap (λ b. cond b (Some q) None) ((Decides-ltb q (length roles)).1 within) in
    let passes = position-Some (role_is r) roles q None found in
    record { place = q; found = found; there = slice_get-get_or roles q None within ∙ ap Some (named_r _ passes.1) }
  where
    named_r : (o : Option NameText) → role_is r o ≡ true → o ≡ Some r
    named_r None t = absurd (false≢true t)
    named_r (Some x) t = ap Some ((bytes_eq-Decides x r).0 t)

contains_cases : (y : NameText) (ys : List NameText) (x : NameText) → Contains (y ∷ ys) x → (y ≡ x) ⊎ Contains ys x
contains_cases y ys x h = go h.0 h.1 h.2 where
  go : (k : ℕ) → k < length (y ∷ ys) → slice_index_or (y ∷ ys) k x ≡ x → (y ≡ x) ⊎ Contains ys x
  go zero l e = inl e
  go (suc k) l e = inr (k, omega arith, e)

contains_head : (y : NameText) (ys : List NameText) → Contains (y ∷ ys) y
contains_head y ys = (0, omega arith, refl)

contains_tail : (y : NameText) (ys : List NameText) (x : NameText) → Contains ys x → Contains (y ∷ ys) x
contains_tail y ys x h = (suc h.0, omega (arith, h.1), h.2)

module _ (roles : List (Option NameText)) (unique : (p q : ℕ) (r : NameText) → At roles p r → At roles q r → p ≡ q)
    (many : length roles ≡ ROLES) where
  in_step : (m : ℕ) (y r : NameText) (p : ℕ) → At roles p y
      → InMask roles (with_found_place m (place_of y roles)) r ↔ ((y ≡ r) ⊎ InMask roles m r)
  in_step m y r p there =
      let q = placed roles p y there in
      let low : q.place < ROLES = omega (arith, slice_get_within roles q.place (Some y) q.there) in
      subst (λ o. InMask roles (with_found_place m o) r ↔ ((y ≡ r) ⊎ InMask roles m r)) (sym q.found)
      (in_with_place roles unique q.place y q.there low m r)

  named_step : (m : ℕ) (y : NameText) (p : ℕ) → At roles p y → IsNamed roles m
      → IsNamed roles (with_found_place m (place_of y roles))
  named_step m y p there n =
      let q = placed roles p y there in
      let low : q.place < ROLES = omega (arith, slice_get_within roles q.place (Some y) q.there) in
      subst (λ o. IsNamed roles (with_found_place m o)) (sym q.found)
      (named_with_place roles unique q.place y q.there low m n)

  in_fold : (names : List NameText) (m : ℕ) → ((r : NameText) → Contains names r → (p : ℕ) × At roles p r)
      → (r : NameText) → InMask roles (fold (λ mask name. with_found_place mask (place_of name roles)) m names) r
      ↔ (Contains names r ⊎ InMask roles m r)
  in_fold [] m known r = (λ i. inr i, λ h. elim h [ inl c ↦ absurd (omega (arith, c.1)) | inr i ↦ i ])
  in_fold (y ∷ ys) m known r =
      let here = known y (contains_head y ys) in
      let head = in_step m y r here.0 here.1 in
      let rest = in_fold ys (with_found_place m (place_of y roles)) (λ x c. known x (contains_tail y ys x c)) r in (
        λ i. elim (rest.0 i) [
          | inl c ↦ inl (contains_tail y ys r c)
          | inr j ↦ elim (head.0 j) [ inl e ↦ inl (subst (Contains (y ∷ ys)) e (contains_head y ys)) | inr k ↦ inr k ]
        ],
        λ h. rest.1 (elim h [
          | inl c ↦ elim (contains_cases y ys r c) [ inl e ↦ inr (head.1 (inl e)) | inr k ↦ inl k ]
          | inr k ↦ inr (head.1 (inr k))
        ]),
      )

  named_fold : (names : List NameText) (m : ℕ) → ((r : NameText) → Contains names r → (p : ℕ) × At roles p r)
      → IsNamed roles m → IsNamed roles (fold (λ mask name. with_found_place mask (place_of name roles)) m names)
  named_fold [] m known n = n
  named_fold (y ∷ ys) m known n =
      let here = known y (contains_head y ys) in
      named_fold ys (with_found_place m (place_of y roles)) (λ x c. known x (contains_tail y ys x c))
      (named_step m y here.0 here.1 n)

  pub in_mask_of : (names : List NameText) → ((r : NameText) → Contains names r → (p : ℕ) × At roles p r)
      → (r : NameText) → InMask roles (mask_of roles names) r ↔ Contains names r
  in_mask_of names known r =
      let f = in_fold names 0 known r in
      (λ i. elim (f.0 i) [ inl c ↦ c | inr z ↦ absurd (none_in_zero roles r z) ], λ c. f.1 (inl c))

  pub named_mask_of : (names : List NameText) → ((r : NameText) → Contains names r → (p : ℕ) × At roles p r)
      → IsNamed roles (mask_of roles names)
  named_mask_of names known = named_fold names 0 known (zero_named roles)
