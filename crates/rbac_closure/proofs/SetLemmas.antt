-- The places of sets that are made of others.
use Rattle.std.proofs.Common.{◌≡◌, ℕ, zero, suc, ◌≤◌, ◌<◌, ◌/◌, ◌%◌, ◌^◌, ◌⊎◌, ◌↔◌, inl, inr, arith, sym, ◌∙◌, subst}
use Rattle.std.proofs.Common.{refl}
use Rattle.std.specs.Int.{bit_at}
use Rattle.std.specs.Int.Bits.{bit_or, bit_xor}
use Rattle.std.proofs.lemmas.Nat.{or_lt, xor_lt}
use Rattle.std.proofs.lemmas.Bool.{cases_lt, cases_eq}
use Rattle.std.proofs.lemmas.Nat.Bits.{bit_at_or, bit_at_and, bit_at_xor, bit_at-lt, bit_at-zero, bit_at_lowest}
use Rattle.std.proofs.lemmas.Nat.Bits.{bit_at-suc, bit_at-pow_same, bit_at-pow_other, same_from_bits}
use Rattle.rbac_closure.specs.declared.role_sets.TheConstants.{ROLES}
use Rattle.rbac_closure.specs.Sets.{Has, Meets, either, common, with_place, without_place}

-- what is made of two sets of the table fits the word too
pub or_fits : (a b : ℕ) → a < 2 ^ ROLES → b < 2 ^ ROLES → bit_or a b < 2 ^ ROLES
or_fits = or_lt ROLES

pub xor_fits : (a b : ℕ) → a < 2 ^ ROLES → b < 2 ^ ROLES → bit_xor a b < 2 ^ ROLES
xor_fits = xor_lt ROLES

-- a place is in a set or not
pub has_cases : (set place : ℕ) → Has set place ⊎ (bit_at set place ≡ 0)
has_cases set place = elim (cases_lt (bit_at set place) 1)
    [ inl l ↦ inr (omega arith) | inr g ↦ inl (omega (arith, bit_at-lt set place)) ]

-- sets of the same places are the same
pub same_set : (a b : ℕ) → ((place : ℕ) → Has a place ↔ Has b place) → a ≡ b
same_set a b h = same_from_bits a b (λ p. elim (has_cases a p) [
  | inl has ↦ has ∙ sym ((h p).0 has)
  | inr none ↦ elim (has_cases b p) [ inl has ↦ absurd (omega (arith, (h p).1 has, none)) | inr also ↦ none ∙ sym also ]
])

pub none_in_empty : (p : ℕ) → Has 0 p → ⊥
none_in_empty p h = omega (arith, h, bit_at-zero p)

pub has_either : (a b p : ℕ) → Has (either a b) p ↔ (Has a p ⊎ Has b p)
has_either a b p = (
  λ h. elim
      (has_cases a p)
      [ inl x ↦ inl x | inr x ↦ inr (omega (arith, h, x, bit_at_or a b p, bit_at-lt a p, bit_at-lt b p)) ],
  λ h. elim h [
    | inl x ↦ omega (arith, x, bit_at_or a b p, bit_at-lt a p, bit_at-lt b p)
    | inr x ↦ omega (arith, x, bit_at_or a b p, bit_at-lt a p, bit_at-lt b p)
  ],
)

pub has_common : (a b p : ℕ) → Has (common a b) p ↔ (Has a p × Has b p)
has_common a b p = (
  λ h. (
    omega (arith, h, bit_at_and a b p, bit_at-lt a p, bit_at-lt b p),
    omega (arith, h, bit_at_and a b p, bit_at-lt a p, bit_at-lt b p),
  ),
  λ h. omega (arith, h.0, h.1, bit_at_and a b p, bit_at-lt a p, bit_at-lt b p),
)

pub has_single : (k p : ℕ) → Has (2 ^ k) p ↔ (p ≡ k)
has_single k p = (
  λ h. elim (cases_eq p k) [ inl e ↦ e | inr d ↦ absurd (omega (arith, h, bit_at-pow_other k p d)) ],
  λ e. subst (λ q. Has (2 ^ k) q) (sym e) (bit_at-pow_same k),
)

pub has_with : (set k p : ℕ) → Has (with_place set k) p ↔ (Has set p ⊎ (p ≡ k))
has_with set k p = (
  λ h. elim ((has_either set (2 ^ k) p).0 h) [ inl x ↦ inl x | inr x ↦ inr ((has_single k p).0 x) ],
  λ h. elim h [
    | inl x ↦ (has_either set (2 ^ k) p).1 (inl x)
    | inr e ↦
        (has_either set (2 ^ k) p).1 (inr ((has_single k p).1 e))
  ],
)

pub with_same : (set k : ℕ) → Has (with_place set k) k
with_same set k = (has_with set k k).1 (inr refl)

pub with_other : (set k p : ℕ) → (p ≡ k → ⊥) → bit_at (with_place set k) p ≡ bit_at set p
with_other set k p d = omega (arith, bit_at_or set (2 ^ k) p, bit_at-pow_other k p d)

pub has_without : (set k p : ℕ) → Has (without_place set k) p ↔ (Has set p × (p ≡ k → ⊥))
has_without set k p = elim (cases_eq p k) [
  | inl e ↦
      let own : bit_at (2 ^ k) p ≡ 1 = (has_single k p).1 e in (
        λ h. absurd
            (omega (
              arith,
              h,
              own,
              bit_at_xor (bit_or set (2 ^ k)) (2 ^ k) p,
              bit_at_or set (2 ^ k) p,
              bit_at-lt set p,
            )),
        λ h. absurd (h.1 e),
      )
  | inr d ↦
      let other : bit_at (2 ^ k) p ≡ 0 = bit_at-pow_other k p d in (
        λ h. (
          omega (
            arith,
            h,
            other,
            bit_at_xor (bit_or set (2 ^ k)) (2 ^ k) p,
            bit_at_or set (2 ^ k) p,
            bit_at-lt set p,
          ),
          d,
        ),
        λ h. omega (arith, h.0, other, bit_at_xor (bit_or set (2 ^ k)) (2 ^ k) p, bit_at_or set (2 ^ k) p),
      )
]

-- a set that is not empty has a place
pub some_place : (k n : ℕ) → n ≤ k → (n ≡ 0 → ⊥) → (p : ℕ) × Has n p
some_place zero n few some = absurd (some (omega arith))
some_place (suc k) n few some = elim (cases_eq (n % 2) 1) [
  | inl odd ↦ (0, bit_at_lowest n ∙ odd)
  | inr even ↦
      let rest = some_place k (n / 2) (omega arith) (λ e. some (omega arith)) in
      (suc rest.0, bit_at-suc n rest.0 ∙ rest.1)
]

pub common_place : (a b : ℕ) → (common a b ≡ 0 → ⊥) → Meets a b
common_place a b some =
    let found = some_place (common a b) (common a b) (omega arith) some in
    let both = (has_common a b found.0).0 found.1 in
    (found.0, both.0, both.1)

pub no_common_place : (a b : ℕ) → Meets a b → common a b ≡ 0 → ⊥
no_common_place a b m e = none_in_empty m.0 (subst (λ n. Has n m.0) e ((has_common a b m.0).1 (m.1, m.2)))

-- a set is within another where it adds nothing to it
pub within_from_either : (a b : ℕ) → either a b ≡ b → (place : ℕ) → Has a place → Has b place
within_from_either a b e p h = subst (λ n. Has n p) e ((has_either a b p).1 (inl h))

pub either_from_within : (a b : ℕ) → ((place : ℕ) → Has a place → Has b place) → either a b ≡ b
either_from_within a b h = same_set (either a b) b (λ p. (
  λ x. elim ((has_either a b p).0 x) [ inl y ↦ h p y | inr y ↦ y ],
  λ y. (has_either a b p).1 (inr y),
))
