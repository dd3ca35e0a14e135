-- The sets of completion codes that single codes make.
use Rattle.std.specs.Prelude.{◌≡◌, ◌≢◌, ℕ, zero, suc, ◌≤◌, ◌<◌, Bool, true, false, ◌&&◌, ◌||◌, nat_eq, max}
use Rattle.std.proofs.Common.{inl, inr, sym, ◌∙◌, refl, arith}
use Rattle.std.proofs.lemmas.Bool.{eq-eqb, ne_eqb, eqb-true, cases_eq, or_cases, and_parts, cases_lt, or_right}
use mathlib.Core.Path.{fun_ext}
use Rattle.est_kernel.specs.Codes.{Codes, no_codes, code, either_code, but_zero, max_codes, some_up_to}
use Rattle.est_kernel.specs.Codes.{codes_out_of_trap, code_out_of_trap}

-- a code alone, as a test
pub code_at : (k n : ℕ) → code k n ≡ nat_eq k n
unfolding code
code_at k n = refl

-- a code that is not 0 alone lacks 0
pub code_zero : (k : ℕ) → k ≢ 0 → code k 0 ≡ false
code_zero k d = code_at k 0 ∙ ne_eqb k 0 d

up_to_code : (j k : ℕ) → j ≤ k → some_up_to (code j) k ≡ true
up_to_code j zero l = code_at j 0 ∙ eq-eqb j 0 (omega arith)
up_to_code j (suc k) l = elim (cases_eq j (suc k)) [
  | inl e ↦ rw (code_at j (suc k), eq-eqb j (suc k) e) (or_true (some_up_to (code j) k))
  | inr d ↦ rw (up_to_code j k (omega arith)) refl
]
  where
    or_true : (b : Bool) → (b || true) ≡ true
    or_true true = refl
    or_true false = refl

up_to_code_not : (j k : ℕ) → k < j → some_up_to (code j) k ≡ false
up_to_code_not j zero l = code_at j 0 ∙ ne_eqb j 0 (λ e. absurd (omega arith))
up_to_code_not j (suc k) l =
    rw (up_to_code_not j k (omega arith), code_at j (suc k), ne_eqb j (suc k) (λ e. absurd (omega arith))) refl

same_test : (a b c d : ℕ) → (a ≡ b → c ≡ d) → (c ≡ d → a ≡ b) → nat_eq a b ≡ nat_eq c d
same_test a b c d f g = elim (cases_eq a b) [
  | inl e ↦ eq-eqb a b e ∙ sym (eq-eqb c d (f e))
  | inr n ↦ ne_eqb a b n ∙ sym (ne_eqb c d (λ h. n (g h)))
]

max_at : (i j k : ℕ) → ((code i k && some_up_to (code j) k) || (code j k && some_up_to (code i) k)) ≡ code (max i j) k
max_at i j k = elim (cases_lt i j) [
  | inl l ↦ elim (cases_eq k j) [
    | inl e ↦
        let a : code j k ≡ true = code_at j k ∙ eq-eqb j k (sym e) in
        let b : code (max i j) k ≡ true = code_at (max i j) k ∙ eq-eqb (max i j) k (omega arith) in
        let c : some_up_to (code i) k ≡ true = up_to_code i k (omega arith) in
        rw (a, b, c) (or_right (code i k && some_up_to (code j) k) true refl)
    | inr d ↦
        let a : code j k ≡ false = code_at j k ∙ ne_eqb j k (λ h. d (sym h)) in
        let b : code (max i j) k ≡ false = code_at (max i j) k ∙ ne_eqb (max i j) k (λ h. d (omega arith)) in
        rw (a, b) (elim (cases_lt k j) [
          | inl m ↦ rw (up_to_code_not j k m) (none (code i k))
          | inr m ↦ let c : code i k ≡ false = code_at i k ∙ ne_eqb i k (λ h. d (omega arith)) in rw c refl
        ])
  ]
  | inr l ↦ elim (cases_eq k i) [
    | inl e ↦
        let a : code i k ≡ true = code_at i k ∙ eq-eqb i k (sym e) in
        let b : code (max i j) k ≡ true = code_at (max i j) k ∙ eq-eqb (max i j) k (omega arith) in
        rw (a, b, up_to_code j k (omega arith)) refl
    | inr d ↦
        let a : code i k ≡ false = code_at i k ∙ ne_eqb i k (λ h. d (sym h)) in
        let b : code (max i j) k ≡ false = code_at (max i j) k ∙ ne_eqb (max i j) k (λ h. d (omega arith)) in
        rw (a, b) (elim (cases_lt k i) [
          | inl m ↦ rw (up_to_code_not i k m) (and_none (code j k))
          | inr m ↦ let c : code j k ≡ false = code_at j k ∙ ne_eqb j k (λ h. d (omega arith)) in rw c refl
        ])
  ]
]
  where
    none : (x : Bool) → ((x && false) || false) ≡ false
    none true = refl
    none false = refl

    and_none : (x : Bool) → (x && false) ≡ false
    and_none true = refl
    and_none false = refl

-- the greater of two codes alone
pub max_of_codes : (i j : ℕ) → max_codes (code i) (code j) ≡ code (max i j)
unfolding max_codes
max_of_codes i j = fun_ext (λ k. max_at i j k)

out_of_trap_at : (i k : ℕ) → codes_out_of_trap (code i) k ≡ code (code_out_of_trap i) k
unfolding codes_out_of_trap code
out_of_trap_at zero zero = refl
out_of_trap_at zero (suc zero) = refl
out_of_trap_at zero (suc (suc k)) =
    same_test 0 (suc (suc (suc k))) 0 (suc (suc k)) (λ h. absurd (omega arith)) (λ h. absurd (omega arith))
out_of_trap_at (suc zero) zero = refl
out_of_trap_at (suc zero) (suc zero) = refl
out_of_trap_at (suc zero) (suc (suc k)) =
    same_test 1 (suc (suc (suc k))) 1 (suc (suc k)) (λ h. absurd (omega arith)) (λ h. absurd (omega arith))
out_of_trap_at (suc (suc zero)) zero = refl
out_of_trap_at (suc (suc zero)) (suc zero) = refl
out_of_trap_at (suc (suc zero)) (suc (suc k)) =
    same_test 2 (suc (suc (suc k))) 0 (suc (suc k)) (λ h. absurd (omega arith)) (λ h. absurd (omega arith))
out_of_trap_at (suc (suc (suc i))) zero = rw (
  ne_eqb (suc (suc (suc i))) 0 (λ h. absurd (omega arith)),
  ne_eqb (suc (suc (suc i))) 2 (λ h. absurd (omega arith)),
  ne_eqb (suc (suc i)) 0 (λ h. absurd (omega arith)),
) refl
out_of_trap_at (suc (suc (suc i))) (suc zero) =
    same_test (suc (suc (suc i))) 1 (suc (suc i)) 1 (λ h. absurd (omega arith)) (λ h. absurd (omega arith))
out_of_trap_at (suc (suc (suc i))) (suc (suc k)) =
    same_test (suc (suc (suc i))) (suc (suc (suc k))) (suc (suc i)) (suc (suc k)) (λ h. omega arith) (λ h. omega arith)

-- a code alone, outside a trap
pub out_of_trap_code : (i : ℕ) → codes_out_of_trap (code i) ≡ code (code_out_of_trap i)
out_of_trap_code i = fun_ext (λ k. out_of_trap_at i k)

-- after an end, the later code alone
pub later_code : (k : ℕ) → either_code (but_zero (code 0)) (code k) ≡ code k
unfolding either_code but_zero
later_code k =
    fun_ext (elim [ zero ↦ refl | suc n ↦ rw (code_at 0 (suc n), ne_eqb 0 (suc n) (λ e. absurd (omega arith))) refl ])

-- a code up to k can be found
pub up_to_found : (a : Codes) (k : ℕ) → some_up_to a k ≡ true → (j : ℕ) × (j ≤ k) × (a j ≡ true)
up_to_found a zero h = (0, omega arith, h)
up_to_found a (suc k) h = elim (or_cases (some_up_to a k) (a (suc k)) h) [
  | inl g ↦ let r = up_to_found a k g in (r.0, omega (arith, r.1), r.2)
  | inr g ↦ (suc k, omega arith, g)
]

up_to_mono : (a b : Codes) (k : ℕ) → ((i : ℕ) → a i ≡ true → b i ≡ true) → some_up_to a k ≡ true → some_up_to b k ≡ true
up_to_mono a b zero f h = f 0 h
up_to_mono a b (suc k) f h = elim (or_cases (some_up_to a k) (a (suc k)) h) [
  | inl g ↦ rw (up_to_mono a b k f g) refl
  | inr g ↦ or_right (some_up_to b k) (b (suc k)) (f (suc k) g)
]

-- the greater codes of larger sets are more
pub max_mono : (a b a' b' : Codes) (k : ℕ) → ((i : ℕ) → a i ≡ true → a' i ≡ true)
    → ((i : ℕ) → b i ≡ true → b' i ≡ true) → max_codes a b k ≡ true → max_codes a' b' k ≡ true
unfolding max_codes
max_mono a b a' b' k f g h = elim (or_cases (a k && some_up_to b k) (b k && some_up_to a k) h) [
  | inl l ↦ let p = and_parts (a k) (some_up_to b k) l in rw (f k p.0, up_to_mono b b' k g p.1) refl
  | inr l ↦ let p = and_parts (b k) (some_up_to a k) l in
      or_right (a' k && some_up_to b' k) _ (rw (g k p.0, up_to_mono a a' k f p.1) refl)
]

-- of a larger set, more is seen outside a trap
pub out_of_trap_mono : (a b : Codes) (k : ℕ) → ((i : ℕ) → a i ≡ true → b i ≡ true) → codes_out_of_trap a k ≡ true
    → codes_out_of_trap b k ≡ true
unfolding codes_out_of_trap
out_of_trap_mono a b zero f h = elim (or_cases (a 0) (a 2) h)
    [ inl g ↦ rw (f 0 g) refl | inr g ↦ or_right (b 0) (b 2) (f 2 g) ]
out_of_trap_mono a b (suc zero) f h = f 1 h
out_of_trap_mono a b (suc (suc k)) f h = f (suc (suc (suc k))) h

-- the only member of a code alone
pub code_true : (n k : ℕ) → code n k ≡ true → k ≡ n
code_true n k h = sym (eqb-true n k (sym (code_at n k) ∙ h))

-- no code has no member
pub none_true : {A : Type 0} (k : ℕ) → no_codes k ≡ true → A
unfolding no_codes
none_true k h = cc
