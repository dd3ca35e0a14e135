-- Every set of numbers below `MOST_STATEMENTS` is a set of pauses.
use Rattle.std.proofs.Common.{◌≡◌, ◌≤◌, ◌<◌, ℕ, zero, suc, ◌+◌, ◌*◌, ◌/◌, ◌%◌, ◌^◌, Bool, true, false, cond, ◌||◌}
use Rattle.std.proofs.Common.{nat_eq, List, [], ◌∷◌, length, inl, inr, refl, ap, sym, ◌∙◌, arith}
use Rattle.std.specs.Prelude.{bit_or, slice_index, All}
use Rattle.std.proofs.Math.Pow.{pow-lt}
use Rattle.std.proofs.lemmas.List.Elements.{All-nil, All-cons}
use Rattle.std.proofs.lemmas.Nat.{or_lt, pow_pos}
use Rattle.std.proofs.lemmas.Bool.{cases_eq, cases_lt, eq-eqb, ne_eqb, or_from}
use mathlib.Core.Path.{fun_ext}
use Rattle.est_kernel.specs.Bits.{bits}
use Rattle.est_kernel.specs.Pauses.{pauses_of}
use Rattle.est_kernel.specs.PauseNumbers.{has_pause}
use Rattle.est_kernel.proofs.Masks.{bits_or, bits_pow, bits_zero, or_true}
use Rattle.est_kernel.specs.declared.limits.TheConstants.{MOST_STATEMENTS}
use Rattle.est_kernel.specs.declared.statement.Statement.{Statement}
use Rattle.est_meaning.specs.Laws.{IsWordSet}
use Rattle.est_kernel.specs.declared.statement.Statement.TheVariants.{Nothing, Pause, Emit, Present', Suspend', Seq'}
use Rattle.est_kernel.specs.declared.statement.Statement.TheVariants.{Loop', Par', Trap', Exit, Local' as Binder'}

-- the mask of the first n places
abbrev pub word_of : (ℕ → Bool) → ℕ → ℕ
word_of f zero = 0
word_of f (suc n) = cond (f n) (bit_or (word_of f n) (2 ^ n)) (word_of f n)

pub or_false : (x : Bool) → (x || false) ≡ x
or_false true = refl
or_false false = refl

with_last : (b : Bool) (w n k : ℕ) → bits (cond b (bit_or w (2 ^ n)) w) k ≡ (bits w k || cond b (nat_eq n k) false)
with_last true w n k = bits_or w (2 ^ n) k ∙ ap (λ x. bits w k || x) (bits_pow n k)
with_last false w n k = sym (or_false (bits w k))

word_above : (f : ℕ → Bool) (n k : ℕ) → n ≤ k → bits (word_of f n) k ≡ false
word_above f zero k l = bits_zero k
word_above f (suc n) k l =
    let d : nat_eq n k ≡ false = ne_eqb n k (λ e. absurd (omega (arith, l, e))) in
    with_last (f n) (word_of f n) n k ∙ rw (word_above f n k (omega (arith, l)), d) (none (f n))
  where
    none : (b : Bool) → (false || cond b false false) ≡ false
    none true = refl
    none false = refl

word_below : (f : ℕ → Bool) (n k : ℕ) → k < n → bits (word_of f n) k ≡ f k
word_below f zero k l = absurd (omega (arith, l))
word_below f (suc n) k l = with_last (f n) (word_of f n) n k ∙ elim (cases_eq n k) [
  | inl e ↦ rw (word_above f n k (omega (arith, e)), eq-eqb n k e) (last (f n) ∙ ap f e)
  | inr d ↦ rw (word_below f n k (omega (arith, l, d)), ne_eqb n k d) (others (f n) (f k))
]
  where
    last : (b : Bool) → (false || cond b true false) ≡ b
    last true = refl
    last false = refl

    others : (b c : Bool) → (c || cond b false false) ≡ c
    others true true = refl
    others true false = refl
    others false true = refl
    others false false = refl

one_more : (b : Bool) (w n k : ℕ) → n < k → w < 2 ^ k → cond b (bit_or w (2 ^ n)) w < 2 ^ k
one_more true w n k l h = or_lt k w (2 ^ n) h (pow-lt l)
one_more false w n k l h = h

-- a mask of n places takes no more than n bits
word_fits : (f : ℕ → Bool) (n k : ℕ) → n ≤ k → word_of f n < 2 ^ k
word_fits f zero k l = pow_pos k
word_fits f (suc n) k l = one_more (f n) (word_of f n) n k l (word_fits f n k (omega (arith, l)))

-- m words, from word i on
abbrev pub words_from : (ℕ → Bool) → ℕ → ℕ → List ℕ
words_from f i zero = []
words_from f i (suc m) = word_of (λ b. f (i * 64 + b)) 64 ∷ words_from f (suc i) m

word_at : (f : ℕ → Bool) (i m k : ℕ) → k < m → slice_index (words_from f i m) k ≡ word_of (λ b. f ((i + k) * 64 + b)) 64
word_at f i zero k l = absurd (omega (arith, l))
word_at f i (suc m) zero l = let e : i ≡ i + 0 = omega arith in ap (λ j. word_of (λ b. f (j * 64 + b)) 64) e
word_at f i (suc m) (suc k) l =
    let e : suc i + k ≡ i + suc k = omega arith in
    word_at f (suc i) m k (omega (arith, l)) ∙ ap (λ j. word_of (λ b. f (j * 64 + b)) 64) e

no_word : (f : ℕ → Bool) (i m k : ℕ) → m ≤ k → slice_index (words_from f i m) k ≡ 0
no_word f i zero k l = refl
no_word f i (suc m) zero l = absurd (omega (arith, l))
no_word f i (suc m) (suc k) l = no_word f (suc i) m k (omega (arith, l))

words_length : (f : ℕ → Bool) (i m : ℕ) → length (words_from f i m) ≡ m
words_length f i zero = refl
words_length f i (suc m) = ap suc (words_length f (suc i) m)

words_fit : (f : ℕ → Bool) (i m : ℕ) → All (λ w. w < 2 ^ 64) (words_from f i m)
words_fit f i zero = All-nil (λ w. w < 2 ^ 64)
words_fit f i (suc m) =
    All-cons (λ w. w < 2 ^ 64) (word_of (λ b. f (i * 64 + b)) 64) (words_from f (suc i) m)
    (word_fits (λ b. f (i * 64 + b)) 64 64 (omega arith)) (words_fit f (suc i) m)

-- the program can hold those words
pub is_word_set : (f : ℕ → Bool) → IsWordSet (record { words = words_from f 0 32 })
is_word_set f = record { words = words_length f 0 32; width = words_fit f 0 32 }

-- those words have these members
pub has_members : (f : ℕ → Bool) → ((n : ℕ) → MOST_STATEMENTS ≤ n → f n ≡ false)
    → pauses_of (record { words = words_from f 0 32 }) ≡ f
unfolding pauses_of
has_members f out = fun_ext (λ n. elim (cases_lt n MOST_STATEMENTS) [
  | inl l ↦
      let i : n / 64 < 32 = omega (arith, l) in
      let b : n % 64 < 64 = omega arith in
      let e : (0 + n / 64) * 64 + n % 64 ≡ n = omega arith in
      ap (λ w. bits w (n % 64)) (word_at f 0 32 (n / 64) i)
      ∙ (word_below (λ b. f ((0 + n / 64) * 64 + b)) 64 (n % 64) b ∙ ap f e)
  | inr g ↦
      let i : 32 ≤ n / 64 = omega (arith, g) in
      ap (λ w. bits w (n % 64)) (no_word f 0 32 (n / 64) i) ∙ (bits_zero (n % 64) ∙ sym (out n g))
])

-- each pause of a statement has a number below `MOST_STATEMENTS`
pub no_pause_above : (s : Statement) (i : ℕ) → MOST_STATEMENTS ≤ i → has_pause s i ≡ false
no_pause_above Nothing i l = refl
no_pause_above (Pause n) i l = ne_eqb n.index i (λ e. absurd (omega (arith, l, e, n.in_range)))
no_pause_above (Emit s) i l = refl
no_pause_above (Present' t x p y q) i l =
    or_from (has_pause p i) (has_pause q i) (no_pause_above p i l) (no_pause_above q i l)
no_pause_above (Suspend' t x p) i l = no_pause_above p i l
no_pause_above (Seq' x p y q) i l = or_from (has_pause p i) (has_pause q i) (no_pause_above p i l)
    (no_pause_above q i l)
no_pause_above (Loop' x p) i l = no_pause_above p i l
no_pause_above (Par' x p y q) i l = or_from (has_pause p i) (has_pause q i) (no_pause_above p i l)
    (no_pause_above q i l)
no_pause_above (Trap' x p) i l = no_pause_above p i l
no_pause_above (Exit k) i l = refl
no_pause_above (Binder' s x p) i l = no_pause_above p i l
