-- Words of bits.
use Rattle.std.proofs.Common.{◌≡◌, ◌≢◌, ◌<◌, ◌≤◌, ℕ, ◌+◌, ◌/◌, ◌%◌, ◌^◌, Bool, true, false, ◌||◌, nat_eq, nat_lt, w64}
use Rattle.std.proofs.Common.{◌-◌, List, length, refl, sym, ap, ◌∙◌, inl, inr, arith}
use Rattle.std.proofs.Common.{get_or-set_same, get_or-set_other}
use Rattle.std.specs.Prelude.{slice_set, slice_index}
use Rattle.std.specs.Int.{trailing_zeros}
use Rattle.std.proofs.Math.Nat.{div-div-eq-div-mul}
use Rattle.std.proofs.lemmas.Bool.{cases_eq, cases_lt, lt-ltb, le-ltb}
use Rattle.std.proofs.lemmas.Nat.{pow-add}
use Rattle.std.proofs.lemmas.Nat.Bits.{bit_at-trailing_zeros}
use Rattle.std.specs.Prelude.{replicate, zero, suc}
use Rattle.est_kernel.proofs.Masks.{bits_zero}
use Rattle.est_kernel.specs.Bits.{bits}
use Rattle.est_kernel.specs.Pauses.{some_from}

-- the bit that was written
pub word_same : (ws : List ℕ) (n w : ℕ) (b : Bool) → n / 64 < length ws → bits w (n % 64) ≡ b
    → bits (slice_index (slice_set ws (n / 64) w) (n / 64)) (n % 64) ≡ b
word_same ws n w b l e = rw get_or-set_same e

-- the other bits
pub word_others : (ws : List ℕ) (n w : ℕ) → n / 64 < length ws
    → ((k : ℕ) → k ≢ n % 64 → bits w k ≡ bits (slice_index ws (n / 64)) k)
    → (i : ℕ) → i ≢ n → bits (slice_index (slice_set ws (n / 64) w) (i / 64)) (i % 64)
    ≡ bits (slice_index ws (i / 64)) (i % 64)
word_others ws n w l f i d = elim (cases_eq (i / 64) (n / 64)) [
  | inl e ↦ let r : i % 64 ≢ n % 64 = λ h. d (omega arith) in rw (e, get_or-set_same) (f (i % 64) r)
  | inr g ↦ rw get_or-set_other refl
]

pub zero_at : (m k : ℕ) → slice_index (replicate m 0) k ≡ 0
zero_at zero k = refl
zero_at (suc m) zero = refl
zero_at (suc m) (suc k) = zero_at m k

-- no bit of an array of zeros is set
pub zero_word : (m k j : ℕ) → bits (slice_index (replicate m 0) k) j ≡ false
zero_word m k j = rw (zero_at m k) (bits_zero j)

-- some of a range of numbers
or_assoc : (a b c : Bool) → (a || (b || c)) ≡ ((a || b) || c)
or_assoc true b c = refl
or_assoc false b c = refl

pub some_split : (f : ℕ → Bool) (i m n : ℕ) → some_from f i (m + n) ≡ (some_from f i m || some_from f (i + m) n)
some_split f i zero n =
    ap (some_from f i) (let e : 0 + n ≡ n = omega arith in e)
    ∙ ap (λ (k : ℕ). some_from f k n) (let e : i ≡ i + 0 = omega arith in e)
some_split f i (suc m) n =
    ap (some_from f i) (let e : suc m + n ≡ suc (m + n) = omega arith in e)
    ∙ (ap (λ (b : Bool). f i || b) (some_split f (i + 1) m n
    ∙ ap (λ (k : ℕ). some_from f (i + 1) m || some_from f k n) (let e : i + 1 + m ≡ i + suc m = omega arith in e))
    ∙ or_assoc (f i) (some_from f (i + 1) m) (some_from f (i + suc m) n))

some_same : (f g : ℕ → Bool) (i j n : ℕ) → ((k : ℕ) → k < n → f (i + k) ≡ g (j + k))
    → some_from f i n ≡ some_from g j n
some_same f g i j zero h = refl
some_same f g i j (suc n) h =
    let here : f i ≡ g j
    = ap f (omega arith) ∙ (h 0 (omega arith) ∙ ap g (omega arith)) in
    let later : (k : ℕ) → k < n → f (i + 1 + k) ≡ g (j + 1 + k)
    = λ k l. ap f (omega arith) ∙ (h (suc k) (omega arith) ∙ ap g (omega arith)) in
    ap (λ (b : Bool). b || some_from f (i + 1) n) here
    ∙ ap (λ (b : Bool). g j || b) (some_same f g (i + 1) (j + 1) n later)

or_true : (b : Bool) → (b || true) ≡ true
or_true true = refl
or_true false = refl

some_with : (f : ℕ → Bool) (i n k : ℕ) → k < n → f (i + k) ≡ true → some_from f i n ≡ true
some_with f i zero k l h = absurd (omega arith)
some_with f i (suc n) zero l h =
    ap (λ (b : Bool). b || some_from f (i + 1) n) (ap f (omega arith) ∙ h)
some_with f i (suc n) (suc k) l h =
    ap (λ (b : Bool). f i || b) (some_with f (i + 1) n k (omega arith) (ap f (omega arith) ∙ h)) ∙ or_true (f i)

some_without : (f : ℕ → Bool) (i n : ℕ) → ((k : ℕ) → k < n → f (i + k) ≡ false) → some_from f i n ≡ false
some_without f i zero h = refl
some_without f i (suc n) h =
    ap (λ (b : Bool). b || some_from f (i + 1) n) (ap f (omega arith) ∙ h 0 (omega arith))
    ∙ some_without f (i + 1) n (λ k l. ap f (omega arith) ∙ h (suc k) (omega arith))

-- a word, shifted
bits_shifted : (x k n : ℕ) → bits x (k + n) ≡ bits (x / 2 ^ k) n
unfolding bits
bits_shifted x k n =
    ap (λ (z : ℕ). nat_eq (z % 2) 1)
    (ap (λ (z : ℕ). x / z) (pow-add 2 k n) ∙ sym (div-div-eq-div-mul x (2 ^ k) (2 ^ n)))

pub none_in_word : (x k n : ℕ) → x / 2 ^ k ≡ 0 → some_from (bits x) k n ≡ false
none_in_word x k n h =
    some_without (bits x) k n (λ i l. bits_shifted x k i ∙ (ap (λ (z : ℕ). bits z i) h ∙ bits_zero i))

pub least_in_word : (x k n : ℕ) → 0 < x / 2 ^ k → x / 2 ^ k < 2 ^ 64
    → some_from (bits x) k n ≡ nat_lt (trailing_zeros w64 (x / 2 ^ k)) n
unfolding bits
least_in_word x k n p q =
    let y = x / 2 ^ k in
    let low = bit_at-trailing_zeros w64 y p q in
    elim (cases_lt (trailing_zeros w64 y) n) [
      | inl l ↦ some_with (bits x) k n (trailing_zeros w64 y) l
          (bits_shifted x k (trailing_zeros w64 y) ∙ ap (λ (b : ℕ). nat_eq b 1) low.1)
          ∙ sym (lt-ltb (trailing_zeros w64 y) n l)
      | inr g ↦ some_without (bits x) k n
          (λ i l. bits_shifted x k i ∙ ap (λ (b : ℕ). nat_eq b 1) (low.2 i (omega arith)))
          ∙ sym (le-ltb (trailing_zeros w64 y) n g)
    ]

-- the part of a set that stands in one word
pub some_in_word : (words : List ℕ) (i n : ℕ) → i % 64 + n ≤ 64
    → some_from (λ (k : ℕ). bits (slice_index words (k / 64)) (k % 64)) i n
    ≡ some_from (bits (slice_index words (i / 64))) (i % 64) n
some_in_word words i n h = some_same _ _ i (i % 64) n (λ k l.
    let word : (i + k) / 64 ≡ i / 64 = omega arith in
    let bit : (i + k) % 64 ≡ i % 64 + k = omega arith in
    ap (λ (w : ℕ). bits (slice_index words w) ((i + k) % 64)) word
    ∙ ap (λ (b : ℕ). bits (slice_index words (i / 64)) b) bit)

-- some of a range: by its first part, or by what is left
pub some_here : (f : ℕ → Bool) (i m n : ℕ) → m ≤ n → some_from f i m ≡ true → some_from f i n ≡ true
some_here f i m n l h =
    ap (some_from f i) (let e : n ≡ m + (n - m) = omega arith in e) ∙ (some_split f i m (n - m)
    ∙ ap (λ (b : Bool). b || some_from f (i + m) (n - m)) h)

pub some_later : (f : ℕ → Bool) (i m n : ℕ) → m ≤ n → some_from f i m ≡ false
    → some_from f i n ≡ some_from f (i + m) (n - m)
some_later f i m n l h =
    ap (some_from f i) (let e : n ≡ m + (n - m) = omega arith in e) ∙ (some_split f i m (n - m)
    ∙ ap (λ (b : Bool). b || some_from f (i + m) (n - m)) h)
