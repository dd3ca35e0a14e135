-- Words of sets of numbers.
use Rattle.std.proofs.Common.{◌≡◌, ◌≢◌, ◌<◌, ◌≤◌, inl, inr, ◌||◌, ◌&&◌, not, ℕ, zero, suc, ◌+◌, ◌*◌, ◌/◌, ◌%◌, ◌^◌}
use Rattle.std.proofs.Common.{List, [], ◌∷◌, ◌++◌, length, replicate, slice_set, Bool, true, false, nat_eq, nat_lt}
use Rattle.std.proofs.Common.{get_or-set_same, get_or-set_other, refl, ap, sym, ◌∙◌, w64, arith}
use Rattle.std.specs.Int.{trailing_zeros}
use Rattle.std.specs.Prelude.{slice_index}
use Rattle.std.proofs.lemmas.Bool.{cases_eq, cases_lt, eq-eqb, ne_eqb, lt-ltb, le-ltb, false≢true}
use Rattle.std.proofs.lemmas.Nat.Bits.{bit_at-trailing_zeros}
use Rattle.est_kernel.proofs.Masks.{bits_zero, or_true}
use Rattle.est_kernel.specs.Bits.{bits}
use Rattle.est_kernel.proofs.PauseSets.{zero_at}
use Rattle.est_modules.proofs.Testing.{same_or}

-- ---- words of a list

-- the bit of a number
abbrev pub bit_in : List ℕ → ℕ → Bool
bit_in ws i = bits (slice_index ws (i / 64)) (i % 64)

-- words of zeros behind the last one change no word
pub padded : (ws : List ℕ) (n k : ℕ) → slice_index (ws ++ replicate n 0) k ≡ slice_index ws k
padded [] n k = zero_at n k
padded (w ∷ ws) n zero = refl
padded (w ∷ ws) n (suc k) = padded ws n k

no_word : (ws : List ℕ) (k : ℕ) → length ws ≤ k → slice_index ws k ≡ 0
no_word [] k l = refl
no_word (w ∷ ws) zero l = absurd (omega (arith, l))
no_word (w ∷ ws) (suc k) l = no_word ws k (omega (arith, l))

-- behind the last word no number is in the set
pub none_behind : (ws : List ℕ) (i : ℕ) → length ws ≤ i / 64 → bit_in ws i ≡ false
none_behind ws i l = ap (λ w. bits w (i % 64)) (no_word ws (i / 64) l) ∙ bits_zero (i % 64)

-- ---- one word more

-- the numbers of a word are put in
pub word_added : (old ws : List ℕ) (place new word : ℕ) → place < length ws
    → ((k : ℕ) → slice_index ws k ≡ slice_index old k)
    → ((k : ℕ) → bits new k ≡ (bits (slice_index ws place) k || bits word k)) → (i : ℕ)
    → bit_in (slice_set ws place new) i ≡ (bit_in old i || (nat_eq (i / 64) place && bits word (i % 64)))
word_added old ws place new word room same either i = elim (cases_eq (i / 64) place) [
  | inl e ↦
      ap (λ k. bits (slice_index (slice_set ws place new) k) (i % 64)) e
      ∙ ap (λ w. bits w (i % 64)) (get_or-set_same ws place new 0 room)
      ∙ either (i % 64)
      ∙ ap (λ w. bits w (i % 64) || bits word (i % 64)) (same place ∙ ap (slice_index old) (sym e))
      ∙ sym (ap (λ b. bit_in old i || (b && bits word (i % 64))) (eq-eqb (i / 64) place e))
  | inr d ↦
      ap (λ w. bits w (i % 64)) (get_or-set_other ws place (i / 64) new 0 d ∙ same (i / 64))
      ∙ same_or (bit_in old i)
      ∙ sym (ap (λ b. bit_in old i || (b && bits word (i % 64))) (ne_eqb (i / 64) place d))
]

-- a number is its word and its bit
pub digits : (n i : ℕ) → (nat_eq (i / 64) (n / 64) && nat_eq (n % 64) (i % 64)) ≡ nat_eq n i
digits n i = elim (cases_eq n i) [
  | inl e ↦
      ap (λ b. b && nat_eq (n % 64) (i % 64)) (eq-eqb (i / 64) (n / 64) (ap (λ k. k / 64) (sym e)))
      ∙ eq-eqb (n % 64) (i % 64) (ap (λ k. k % 64) e) ∙ sym (eq-eqb n i e)
  | inr d ↦ (elim (cases_eq (i / 64) (n / 64)) [
    | inl e ↦
        let other : n % 64 ≢ i % 64 = λ f. d (omega (arith, e, f)) in
        ap (λ b. b && nat_eq (n % 64) (i % 64)) (eq-eqb (i / 64) (n / 64) e)
        ∙ ne_eqb (n % 64) (i % 64) other ∙ sym (ne_eqb n i d)
    | inr f ↦
        ap (λ b. b && nat_eq (n % 64) (i % 64)) (ne_eqb (i / 64) (n / 64) f) ∙ sym (ne_eqb n i d)
  ])
]

-- ---- word by word

-- the words that were asked for
pub minus_at : (a b : List ℕ) (place x y word : ℕ) → x ≡ slice_index a place → y ≡ slice_index b place
    → ((k : ℕ) → bits word k ≡ (bits x k && not (bits y k))) → (k : ℕ)
    → bits word k ≡ (bits (slice_index a place) k && not (bits (slice_index b place) k))
minus_at a b place x y word is_x is_y minus k =
    minus k ∙ ap (λ w. bits w k && not (bits y k)) is_x ∙ ap (λ w. bits (slice_index a place) k && not (bits w k)) is_y

-- what stands in a word of the first set and not in that of the second
pub word_left : (a b : List ℕ) (place word i : ℕ)
    → ((k : ℕ) → bits word k ≡ (bits (slice_index a place) k && not (bits (slice_index b place) k)))
    → i / 64 ≡ place → bits word (i % 64) ≡ (bit_in a i && not (bit_in b i))
word_left a b place word i minus e =
    minus (i % 64)
    ∙ ap (λ k. bits (slice_index a k) (i % 64) && not (bits (slice_index b k) (i % 64))) (sym e)

below_next : (x before here y : Bool) → ((x || (before && y)) || (here && y)) ≡ (x || ((before || here) && y))
below_next true before here y = refl
below_next false true here true = refl
below_next false true true false = refl
below_next false true false false = refl
below_next false false here y = refl

next_place : (k place : ℕ) → (nat_lt k place || nat_eq k place) ≡ nat_lt k (place + 1)
next_place k place = elim (cases_eq k place) [
  | inl e ↦
      ap (λ b. nat_lt k place || b) (eq-eqb k place e) ∙ or_true (nat_lt k place)
      ∙ sym (lt-ltb k (place + 1) (omega (arith, e)))
  | inr d ↦ (elim (cases_lt k place) [
    | inl l ↦ ap (λ b. b || nat_eq k place) (lt-ltb k place l) ∙ sym (lt-ltb k (place + 1) (omega (arith, l)))
    | inr g ↦
        ap (λ b. b || nat_eq k place) (le-ltb k place g) ∙ ne_eqb k place d
        ∙ sym (le-ltb k (place + 1) (omega (arith, d, g)))
  ])
]

at_place : (k place : ℕ) (b c : Bool) → (k ≡ place → b ≡ c) → (nat_eq k place && b) ≡ (nat_eq k place && c)
at_place k place b c h = elim (cases_eq k place) [
  | inl e ↦ ap (λ x. nat_eq k place && x) (h e)
  | inr d ↦ ap (λ x. x && b) (ne_eqb k place d) ∙ sym (ap (λ x. x && c) (ne_eqb k place d))
]

-- the difference is put in up to the next word
pub difference_next : (a b : List ℕ) (place word i : ℕ) (old now new : Bool)
    → ((k : ℕ) → bits word k ≡ (bits (slice_index a place) k && not (bits (slice_index b place) k)))
    → now ≡ (old || (nat_lt (i / 64) place && (bit_in a i && not (bit_in b i))))
    → new ≡ (now || (nat_eq (i / 64) place && bits word (i % 64)))
    → new ≡ (old || (nat_lt (i / 64) (place + 1) && (bit_in a i && not (bit_in b i))))
difference_next a b place word i old now new minus so step =
    let left : Bool = bit_in a i && not (bit_in b i) in
    step
    ∙ ap (λ x. x || (nat_eq (i / 64) place && bits word (i % 64))) so
    ∙ ap (λ x. (old || (nat_lt (i / 64) place && left)) || x)
    (at_place (i / 64) place (bits word (i % 64)) left (word_left a b place word i minus))
    ∙ below_next old (nat_lt (i / 64) place) (nat_eq (i / 64) place) left
    ∙ ap (λ x. old || (x && left)) (next_place (i / 64) place)

-- behind the last word there is no difference
pub difference_whole : (a b : List ℕ) (place i : ℕ) (old now : Bool) → length a ≤ place
    → now ≡ (old || (nat_lt (i / 64) place && (bit_in a i && not (bit_in b i))))
    → now ≡ (old || (bit_in a i && not (bit_in b i)))
difference_whole a b place i old now long so = so ∙ elim (cases_lt (i / 64) place) [
  | inl l ↦ ap (λ x. old || (x && (bit_in a i && not (bit_in b i)))) (lt-ltb (i / 64) place l)
  | inr g ↦
      ap (λ x. old || (x && (bit_in a i && not (bit_in b i)))) (le-ltb (i / 64) place g)
      ∙ sym (ap (λ x. old || (x && not (bit_in b i))) (none_behind a i (omega (arith, long, g))))
]

-- ---- whether a set lies in two others

abbrev pub Covers : List ℕ → List ℕ → List ℕ → ℕ → Type 0
Covers a b c i = bit_in a i ≡ true → (bit_in b i || bit_in c i) ≡ true

none_left : (x y z : Bool) → false ≡ ((x && not y) && not z) → x ≡ true → (y || z) ≡ true
none_left x true z e h = refl
none_left x false true e h = refl
none_left true false false e h = e
none_left false false false e h = h

-- a word of which nothing is left
pub word_covered : (a b c : List ℕ) (place first second i : ℕ)
    → ((k : ℕ) → bits first k ≡ (bits (slice_index a place) k && not (bits (slice_index b place) k)))
    → ((k : ℕ) → bits second k ≡ (bits first k && not (bits (slice_index c place) k)))
    → second ≡ 0 → i / 64 ≡ place → Covers a b c i
word_covered a b c place first second i minus again none e =
    none_left (bit_in a i) (bit_in b i) (bit_in c i)
    (sym (bits_zero (i % 64)) ∙ ap (λ w. bits w (i % 64)) (sym none) ∙ again (i % 64)
    ∙ ap (λ k. bits first (i % 64) && not (bits (slice_index c k) (i % 64))) (sym e)
    ∙ ap (λ x. x && not (bit_in c i)) (word_left a b place first i minus e))

pub covered_next : (a b c : List ℕ) (place first second : ℕ)
    → ((k : ℕ) → bits first k ≡ (bits (slice_index a place) k && not (bits (slice_index b place) k)))
    → ((k : ℕ) → bits second k ≡ (bits first k && not (bits (slice_index c place) k)))
    → second ≡ 0 → ((i : ℕ) → i / 64 < place → Covers a b c i) → (i : ℕ) → i / 64 < place + 1 → Covers a b c i
covered_next a b c place first second minus again none before i l = elim (cases_lt (i / 64) place) [
  | inl m ↦ before i m
  | inr g ↦ word_covered a b c place first second i minus again none (omega (arith, l, g))
]

pub covered_whole : (a b c : List ℕ) (place : ℕ) → length a ≤ place
    → ((i : ℕ) → i / 64 < place → Covers a b c i) → (i : ℕ) → Covers a b c i
covered_whole a b c place long before i h = elim (cases_lt (i / 64) place) [
  | inl m ↦ before i m h
  | inr g ↦ absurd (false≢true (sym (none_behind a i (omega (arith, long, g))) ∙ h))
]

-- a number in a word that is not 0
pub some_bit : (x : ℕ) → 0 < x → x < 2 ^ 64 → (k : ℕ) × (k < 64) × (bits x k ≡ true)
unfolding bits
some_bit x p q =
    let low = bit_at-trailing_zeros w64 x p q in
    (trailing_zeros w64 x, low.0, ap (λ y. nat_eq y 1) low.1)

one_left : (x y z : Bool) → ((x && not y) && not z) ≡ true → (x ≡ true → (y || z) ≡ true) → ⊥
one_left true true z e h = false≢true e
one_left true false true e h = false≢true e
one_left true false false e h = false≢true (h refl)
one_left false y z e h = false≢true e

-- a word of which something is left
pub word_uncovered : (a b c : List ℕ) (place first second : ℕ)
    → ((k : ℕ) → bits first k ≡ (bits (slice_index a place) k && not (bits (slice_index b place) k)))
    → ((k : ℕ) → bits second k ≡ (bits first k && not (bits (slice_index c place) k)))
    → 0 < second → second < 2 ^ 64 → ((i : ℕ) → Covers a b c i) → ⊥
word_uncovered a b c place first second minus again some fits all =
    let found = some_bit second some fits in
    let k : ℕ = found.0 in
    let i : ℕ = place * 64 + k in
    let word : i / 64 ≡ place = omega (arith, found.1) in
    let bit : i % 64 ≡ k = omega (arith, found.1) in
    one_left (bit_in a i) (bit_in b i) (bit_in c i)
    (sym (again (i % 64) ∙ ap (λ j. bits first (i % 64) && not (bits (slice_index c j) (i % 64))) (sym word)
    ∙ ap (λ x. x && not (bit_in c i)) (word_left a b place first i minus word))
    ∙ ap (bits second) bit ∙ found.2)
    (all i)
