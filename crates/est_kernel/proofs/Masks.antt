-- The bits of masks.
use Rattle.std.proofs.Common.{◌≡◌, ◌<◌, ◌≤◌, ℕ, zero, suc, ◌-◌, ◌*◌, ◌/◌, ◌%◌, ◌^◌, max, min, Bool, true, false, not}
use Rattle.std.proofs.Common.{◌&&◌, ◌||◌, nat_eq, refl, ap, sym, ◌∙◌, arith, w64}
use Rattle.std.specs.Prelude.{bit_and, bit_or}
use Rattle.std.specs.Int.{bit_at}
use Rattle.std.proofs.lemmas.Nat.Bits.{bit_at_or, bit_at_and, bit_at_not, bit_at-lt, shr_and_one, bit_at-pow_same}
use Rattle.std.proofs.lemmas.Nat.Bits.{bit_at-pow_other, bit_at-zero, bit_at-suc}
use Rattle.std.proofs.lemmas.Bool.{eq-eqb, ne_eqb, cases_eq, cases_lt}
use Rattle.std.proofs.Common.{inl, inr}
use Rattle.std.proofs.lemmas.Nat.Bits.{bit_at_above, bit_at_mask_inside, bit_at_mask_below, bit_at-trailing_zeros}
use Rattle.std.specs.Int.{trailing_zeros}
use mathlib.Core.Path.{fun_ext}
use Rattle.est_kernel.specs.Codes.{no_codes, code, either_code, but_zero, max_codes, codes_out_of_trap, Codes}
use Rattle.est_kernel.specs.Codes.{some_up_to}
use Rattle.est_kernel.specs.Bits.{bits}

max_one : (x y : ℕ) → x < 2 → y < 2 → nat_eq (max x y) 1 ≡ (nat_eq x 1 || nat_eq y 1)
max_one zero zero p q = refl
max_one zero (suc zero) p q = refl
max_one (suc zero) zero p q = refl
max_one (suc zero) (suc zero) p q = refl
max_one (suc (suc x)) y p q = absurd (omega arith)
max_one x (suc (suc y)) p q = absurd (omega arith)

min_one : (x y : ℕ) → x < 2 → y < 2 → nat_eq (min x y) 1 ≡ (nat_eq x 1 && nat_eq y 1)
min_one zero zero p q = refl
min_one zero (suc zero) p q = refl
min_one (suc zero) zero p q = refl
min_one (suc zero) (suc zero) p q = refl
min_one (suc (suc x)) y p q = absurd (omega arith)
min_one x (suc (suc y)) p q = absurd (omega arith)

-- the bits of either mask
pub bits_or : (a b n : ℕ) → bits (bit_or a b) n ≡ (bits a n || bits b n)
unfolding bits
bits_or a b n = rw bit_at_or (max_one (bit_at a n) (bit_at b n) (bit_at-lt a n) (bit_at-lt b n))

-- the bits of both masks
pub bits_and : (a b n : ℕ) → bits (bit_and a b) n ≡ (bits a n && bits b n)
unfolding bits
bits_and a b n = rw bit_at_and (min_one (bit_at a n) (bit_at b n) (bit_at-lt a n) (bit_at-lt b n))

-- either mask, as a set
pub either_bits : (a b : ℕ) → bits (bit_or a b) ≡ either_code (bits a) (bits b)
unfolding either_code
either_bits a b = fun_ext (λ n. bits_or a b n)

-- a bit, as the code asks for it
pub has_bit : (m n : ℕ) → nat_eq (bit_and (m / 2 ^ n) 1) 1 ≡ bits m n
unfolding bits
has_bit m n = ap (λ x. nat_eq x 1) (shr_and_one m n)

-- the bits of a power of two
pub bits_pow : (k n : ℕ) → bits (2 ^ k) n ≡ nat_eq k n
unfolding bits
bits_pow k n = elim (cases_eq n k) [
  | inl e ↦ rw e (ap (λ x. nat_eq x 1) (bit_at-pow_same k) ∙ sym (eq-eqb k k refl))
  | inr d ↦ ap (λ x. nat_eq x 1) (bit_at-pow_other k n d) ∙ sym (ne_eqb k n (λ e. d (sym e)))
]

-- no bit of 0 is set
pub bits_zero : (n : ℕ) → bits 0 n ≡ false
unfolding bits
bits_zero n = ap (λ x. nat_eq x 1) (bit_at-zero n)

-- the empty mask of codes
pub zero_codes : bits 0 ≡ no_codes
unfolding no_codes
zero_codes = fun_ext bits_zero

-- no bit past the width is set
pub bits_above : (x n : ℕ) → x < 2 ^ 64 → 64 ≤ n → bits x n ≡ false
unfolding bits
bits_above x n p q = ap (λ y. nat_eq y 1) (bit_at_above x 64 n p q)

-- the bits of a half
pub bits-suc : (x n : ℕ) → bits x (suc n) ≡ bits (x / 2) n
unfolding bits
bits-suc x n = ap (λ y. nat_eq y 1) (bit_at-suc x n)

-- an even number has no lowest bit
pub bits_even : (x : ℕ) → bits (x * 2) 0 ≡ false
unfolding bits
bits_even x = let e : x * 2 / 2 ^ 0 % 2 ≡ 0 = omega arith in ap (λ y. nat_eq y 1) e

-- the numbers but 0, shifted out and in again
pub but_zero_bits : (a : ℕ) → bits (a / 2 * 2) ≡ but_zero (bits a)
unfolding but_zero
but_zero_bits a = fun_ext (elim [
  | zero ↦ bits_even (a / 2)
  | suc n ↦ bits-suc (a / 2 * 2) n ∙ (ap (λ x. bits x n) (omega arith) ∙ sym (bits-suc a n))
])

quarter : (a n : ℕ) → bits a (suc (suc n)) ≡ bits (a / 4) n
quarter a n = bits-suc a (suc n) ∙ (bits-suc (a / 2) n ∙ ap (λ x. bits x n) (omega arith))

four_times : (x n : ℕ) → bits (x * 4) (suc (suc n)) ≡ bits x n
four_times x n = quarter (x * 4) n ∙ ap (λ y. bits y n) (omega arith)

out_of_trap_parts : (a n : ℕ) → bits (bit_or (bit_or (bit_and (bit_or a (a / 4)) 1) (bit_and a 2)) (a / 8 * 4)) n
    ≡ ((((bits a n || bits (a / 4) n) && bits 1 n) || (bits a n && bits 2 n)) || bits (a / 8 * 4) n)
out_of_trap_parts a n = rw (bits_or, bits_or, bits_and, bits_or, bits_and) refl

bits_1_0 : bits 1 0 ≡ true
unfolding bits
bits_1_0 = refl

bits_2_0 : bits 2 0 ≡ false
unfolding bits
bits_2_0 = refl

bits_1_1 : bits 1 1 ≡ false
unfolding bits
bits_1_1 = refl

bits_2_1 : bits 2 1 ≡ true
unfolding bits
bits_2_1 = refl

bits_four_0 : (x : ℕ) → bits (x * 4) 0 ≡ false
unfolding bits
bits_four_0 x = let e : x * 4 / 2 ^ 0 % 2 ≡ 0 = omega arith in ap (λ y. nat_eq y 1) e

bits_four_1 : (x : ℕ) → bits (x * 4) 1 ≡ false
unfolding bits
bits_four_1 x = let e : x * 4 / 2 ^ 1 % 2 ≡ 0 = omega arith in ap (λ y. nat_eq y 1) e

at_0 : (x y : Bool) → ((((x || y) && true) || (x && false)) || false) ≡ (x || y)
at_0 true y = refl
at_0 false true = refl
at_0 false false = refl

at_1 : (x y : Bool) → ((((x || y) && false) || (x && true)) || false) ≡ x
at_1 true true = refl
at_1 true false = refl
at_1 false true = refl
at_1 false false = refl

at_more : (x y z : Bool) → ((((x || y) && false) || (x && false)) || z) ≡ z
at_more true true z = refl
at_more true false z = refl
at_more false true z = refl
at_more false false z = refl

out_of_trap_at : (a n : ℕ) → bits (bit_or (bit_or (bit_and (bit_or a (a / 4)) 1) (bit_and a 2)) (a / 8 * 4)) n
    ≡ codes_out_of_trap (bits a) n
unfolding codes_out_of_trap
out_of_trap_at a zero =
    out_of_trap_parts a 0 ∙ rw (bits_1_0, bits_2_0, bits_four_0 (a / 8), quarter a 0) (at_0 (bits a 0) (bits (a / 4) 0))
out_of_trap_at a (suc zero) =
    out_of_trap_parts a 1 ∙ rw (bits_1_1, bits_2_1, bits_four_1 (a / 8)) (at_1 (bits a 1) (bits (a / 4) 1))
out_of_trap_at a (suc (suc k)) =
    out_of_trap_parts a (suc (suc k))
    ∙ rw (quarter 1 k, quarter 2 k, bits_zero k, four_times (a / 8) k)
    (at_more (bits a (suc (suc k))) (bits (a / 4) (suc (suc k))) (bits (a / 8) k)
    ∙ sym (quarter a (suc k) ∙ (bits-suc (a / 4) k ∙ ap (λ x. bits x k) (omega arith))))

-- the codes outside a trap, as a mask
pub out_of_trap_bits : (a : ℕ) → bits (bit_or (bit_or (bit_and (bit_or a (a / 4)) 1) (bit_and a 2)) (a / 8 * 4))
    ≡ codes_out_of_trap (bits a)
out_of_trap_bits a = fun_ext (λ n. out_of_trap_at a n)

-- no number up to n is in the empty set
pub up_to_none : (n : ℕ) → some_up_to (bits 0) n ≡ false
up_to_none zero = bits_zero zero
up_to_none (suc n) = rw (up_to_none n, bits_zero (suc n)) refl

up_to_before : (s : Codes) (k n : ℕ) → ((i : ℕ) → i < k → s i ≡ false) → n < k → some_up_to s n ≡ false
up_to_before s k zero h l = h zero l
up_to_before s k (suc n) h l = rw (up_to_before s k n h (omega arith), h (suc n) l) refl

pub or_true : (b : Bool) → (b || true) ≡ true
or_true true = refl
or_true false = refl

up_to_from : (s : Codes) (k n : ℕ) → s k ≡ true → k ≤ n → some_up_to s n ≡ true
up_to_from s zero zero e l = e
up_to_from s (suc k) zero e l = absurd (omega arith)
up_to_from s k (suc n) e l = elim (cases_eq k (suc n)) [
  | inl q ↦ let f : s (suc n) ≡ true = rw q at e in rw f (or_true (some_up_to s n))
  | inr d ↦ rw (up_to_from s k n e (omega arith)) refl
]

-- the mask from the least bit on
pub least_bits : (a n : ℕ) → 0 < a → a < 2 ^ 64 → n < 64
    → bits (2 ^ 64 - 2 ^ trailing_zeros w64 a) n ≡ some_up_to (bits a) n
unfolding bits
least_bits a n p q l =
    let low = bit_at-trailing_zeros w64 a p q in
    elim (cases_lt n (trailing_zeros w64 a)) [
      | inl h ↦ ap (λ y. nat_eq y 1) (bit_at_mask_below (trailing_zeros w64 a) 64 n h)
          ∙ sym (up_to_before (bits a) (trailing_zeros w64 a) n (λ i g. ap (λ y. nat_eq y 1) (low.2 i g)) h)
      | inr h ↦ ap (λ y. nat_eq y 1) (bit_at_mask_inside (trailing_zeros w64 a) 64 n h l)
          ∙ sym (up_to_from (bits a) (trailing_zeros w64 a) n (ap (λ y. nat_eq y 1) low.1) h)
    ]

-- the greater codes of all pairs, as a mask
pub max_bits : (a b fa fb : ℕ) → a < 2 ^ 64 → b < 2 ^ 64
    → ((n : ℕ) → n < 64 → bits fa n ≡ some_up_to (bits a) n) → ((n : ℕ) → n < 64 → bits fb n ≡ some_up_to (bits b) n)
    → bits (bit_or (bit_and a fb) (bit_and b fa)) ≡ max_codes (bits a) (bits b)
unfolding max_codes
max_bits a b fa fb p q h k = fun_ext (λ n. elim (cases_lt n 64) [
  | inl l ↦ rw (bits_or (bit_and a fb) (bit_and b fa) n, bits_and a fb n, bits_and b fa n, h n l, k n l) refl
  | inr g ↦ rw (
    bits_or (bit_and a fb) (bit_and b fa) n,
    bits_and a fb n,
    bits_and b fa n,
    bits_above a n p g,
    bits_above b n q g,
  ) refl
])

-- past the width, a mask of 64 bits changes nothing
pub bits_and_above : (x y n : ℕ) → x < 2 ^ 64 → 64 ≤ n → bits (bit_and x y) n ≡ bits x n
bits_and_above x y n p q = rw (bits_and x y n, bits_above x n p q) refl

not_one : (x : ℕ) → x < 2 → nat_eq (1 - x) 1 ≡ not (nat_eq x 1)
not_one zero l = refl
not_one (suc zero) l = refl
not_one (suc (suc x)) l = absurd (omega arith)

bits_not : (b n : ℕ) → b < 2 ^ 64 → n < 64 → bits (2 ^ 64 - 1 - b) n ≡ not (bits b n)
unfolding bits
bits_not b n q l = ap (λ y. nat_eq y 1) (bit_at_not w64 b n q l) ∙ not_one (bit_at b n) (bit_at-lt b n)

-- the bits of one mask that are not in another
pub bits_minus : (a b n : ℕ) → a < 2 ^ 64 → b < 2 ^ 64 → bits (bit_and a (2 ^ 64 - 1 - b)) n
    ≡ (bits a n && not (bits b n))
bits_minus a b n p q = bits_and a (2 ^ 64 - 1 - b) n ∙ elim (cases_lt n 64) [
  | inl l ↦ ap (λ x. bits a n && x) (bits_not b n q l)
  | inr g ↦ rw (bits_above a n p g) refl
]
