-- A set has as many places as its number has bits that are set, and the first from a place on is that of its lowest bit
-- from there on.
use Rattle.std.proofs.Common.{◌≡◌, ℕ, zero, suc, ◌+◌, ◌-◌, ◌/◌, ◌%◌, ◌^◌, ◌<◌, ◌≤◌, length, cond, true, false, Bool}
use Rattle.std.proofs.Common.{inl, inr, arith, sym, ◌∙◌, ◌∷◌, ap, ap₂, subst, refl}
use Rattle.std.specs.Prelude.{◌==◌, count_ones}
use Rattle.std.specs.Int.{bit_at, w64, trailing_zeros}
use Rattle.std.specs.Int.Count.{ones-ones}
use Rattle.std.proofs.Math.Nat.{mod-one, mod-lt, mod-eq_of_lt}
use Rattle.std.proofs.Math.Pow.{shr-shr}
use Rattle.std.proofs.lemmas.Bool.{cases_lt}
use Rattle.std.proofs.lemmas.Bool.Decides.{Decides-eqb}
use Rattle.std.proofs.lemmas.Nat.{ones_cat, mod-pow-add, pow_pos}
use Rattle.std.proofs.lemmas.Nat.Bits.{bit_at_above, bit_at-trailing_zeros, bit_at-zero}
use Rattle.rbac_closure.specs.declared.role_sets.TheConstants.{ROLES}
use Rattle.rbac_closure.specs.Sets.{Has, IsFirstFrom, places_before, places_of}
use Rattle.rbac_closure.proofs.SetLemmas.{has_cases}

no_places : (set : ℕ) → length (places_before zero set) ≡ 0
unfolding places_before
no_places set = refl

pub one_more : (n set : ℕ) → Has set n → places_before (suc n) set ≡ n ∷ places_before n set
unfolding places_before
one_more n set has = ap (λ b. cond b (n ∷ places_before n set) (places_before n set))
    ((Decides-eqb (bit_at set n) 1).1 has)

pub no_more : (n set : ℕ) → (Has set n → ⊥) → places_before (suc n) set ≡ places_before n set
unfolding places_before
no_more n set none = by_test (bit_at set n == 1) refl where
  by_test : (b : Bool) → (bit_at set n == 1) ≡ b → cond (bit_at set n == 1) (n ∷ places_before n set)
      (places_before n set) ≡ places_before n set
  by_test true e = absurd (none ((Decides-eqb (bit_at set n) 1).0 e))
  by_test false e = ap (λ b. cond b (n ∷ places_before n set) (places_before n set)) e

-- one more place before the next, where it is one of the set's, and else none
more_places : (n set : ℕ) → length (places_before (suc n) set) ≡ bit_at set n + length (places_before n set)
more_places n set = elim (has_cases set n) [
  | inl has ↦ ap length (one_more n set has) ∙ omega (arith, has)
  | inr none ↦ ap length (no_more n set (λ has. omega (arith, sym has ∙ none))) ∙ omega (arith, none)
]

ones_of_bit : (set n : ℕ) → count_ones (bit_at set n) ≡ bit_at set n
ones_of_bit set n = elim (has_cases set n) [
  | inl has ↦ ap count_ones has ∙ ones-ones 1 ∙ sym has
  | inr none ↦ ap count_ones none ∙ ones-ones 0 ∙ sym none
]

-- the bits below a place
ones_below : (set n : ℕ) → count_ones (set % 2 ^ n) ≡ length (places_before n set)
ones_below set zero = ap count_ones (mod-one set) ∙ ones-ones 0 ∙ sym (no_places set)
ones_below set (suc n) =
    let more : suc n ≡ 1 + n = omega arith in
    ap (λ k. count_ones (set % 2 ^ k)) more
    ∙ ap count_ones (mod-pow-add set 1 n)
    ∙ ones_cat n (bit_at set n) (set % 2 ^ n) (mod-lt set (pow_pos n))
    ∙ ap₂ (λ a b. a + b) (ones_of_bit set n) (ones_below set n)
    ∙ sym (more_places n set)

pub ones_are_places : (set : ℕ) → set < 2 ^ ROLES → count_ones set ≡ length (places_of set)
ones_are_places set fits = ap count_ones (sym (mod-eq_of_lt fits)) ∙ ones_below set ROLES

-- a bit of what is left of a number without its lowest
shifted_bit : (n start i : ℕ) → bit_at (n / 2 ^ start) i ≡ bit_at n (start + i)
shifted_bit n start i = ap (λ x. x % 2) (shr-shr n start i)

pub lowest_is_first : (n start : ℕ) → 0 < n / 2 ^ start → n / 2 ^ start < 2 ^ ROLES
    → IsFirstFrom n start (start + trailing_zeros w64 (n / 2 ^ start))
lowest_is_first n start some fits =
    let lowest = bit_at-trailing_zeros w64 (n / 2 ^ start) some fits in
    record {
      within = sym (shifted_bit n start (trailing_zeros w64 (n / 2 ^ start))) ∙ lowest.1;
      after = omega arith;
      first = λ other from before has.
          let i = other - start in
          let same : start + i ≡ other = omega (arith, from) in
          let none : bit_at n (start + i) ≡ 0 = sym (shifted_bit n start i)
          ∙ lowest.2 i (omega (arith, from, before)) in
          omega (arith, sym (subst (λ p. Has n p) (sym same) has) ∙ none);
    }

pub none_is_left : (n start : ℕ) → n / 2 ^ start ≡ 0 → (place : ℕ) → start ≤ place → Has n place → ⊥
none_is_left n start none place from has =
    let i = place - start in
    let same : start + i ≡ place = omega (arith, from) in
    let zero_bit : bit_at n (start + i) ≡ 0 = sym (shifted_bit n start i) ∙ ap (λ x. bit_at x i) none ∙ bit_at-zero i in
    omega (arith, sym (subst (λ p. Has n p) (sym same) has) ∙ zero_bit)

-- the places of a set of the table are places of the table
pub in_table : (set place : ℕ) → set < 2 ^ ROLES → Has set place → place < ROLES
in_table set place fits has = elim (cases_lt place ROLES)
    [ inl l ↦ l | inr g ↦ absurd (omega (arith, has, bit_at_above set ROLES place fits g)) ]
