-- Which signals a test reads (this project's own form).
use Rattle.std.specs.Prelude.{◌≡◌, ℕ, Bool, true}
use Rattle.est_kernel.specs.Term.{Query, Joint}
use Rattle.est_kernel.specs.declared.statement.Connective.{Connective}
use Rattle.est_meaning.specs.Environments.{status_of, status_of_joint}
use Rattle.est_explore.specs.Claims.{known}

-- two sets in which these signals are the same
abbrev pub AreAlike : (signals f g : ℕ → Bool) → Type 0
AreAlike signals f g = (n : ℕ) → signals n ≡ true → f n ≡ g n

-- what is asked is the same where these signals are
abbrev pub IsReadBy : Query → (signals : ℕ → Bool) → Type 0
IsReadBy q signals = (f g : ℕ → Bool) → AreAlike signals f g → status_of (known f) q ≡ status_of (known g) q

-- what operands ask is the same where these signals are, with any connective between them
abbrev pub IsJointReadBy : Joint → (signals : ℕ → Bool) → Type 0
IsJointReadBy o signals = (c : Connective) (f g : ℕ → Bool) → AreAlike signals f g
    → status_of_joint c (known f) o ≡ status_of_joint c (known g) o
