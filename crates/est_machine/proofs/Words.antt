-- Words of a state, and its pauses.
use Rattle.std.proofs.Common.{◌≡◌, ◌≢◌, ◌<◌, ◌+◌, inl, inr, ℕ, Bool, ◌&&◌, nat_lt}
use Rattle.std.proofs.Common.{arith}
use Rattle.std.proofs.lemmas.Bool.{cases_eq}
use Rattle.std.proofs.lemmas.Bool.Decides.{nat_tests}

-- one more place is looked at
pub one_more : (f g all : ℕ → Bool) (i : ℕ) → g i ≡ all i → ((n : ℕ) → n ≢ i → g n ≡ f n)
    → ((n : ℕ) → f n ≡ (nat_lt n i && all n)) → (n : ℕ) → g n ≡ (nat_lt n (i + 1) && all n)
one_more f g all i same other before n = elim (cases_eq n i) [
  | inl e ↦ rw (e, same) (grind (arith, nat_tests))
  | inr d ↦ rw (other n d, before n) (grind (arith, nat_tests))
]

-- what was looked at is so
pub looked_at : (f all : ℕ → Bool) (most : ℕ) → ((n : ℕ) → f n ≡ (nat_lt n most && all n)) → (n : ℕ) → n < most
    → f n ≡ all n
looked_at f all most before n l = rw (before n) (grind (arith, nat_tests))
