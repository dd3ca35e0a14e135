-- Where only some inputs of an instant are asked (this project's own form).
use Rattle.std.specs.Prelude.{◌≡◌, ℕ, Bool, true, not, ◌&&◌, List}
use Rattle.est_kernel.specs.Bits.{bits}
use Rattle.est_kernel.specs.Interfaces.{emittable, offerable}
use Rattle.est_kernel.specs.declared.interface.Declaration.{Declaration}
use Rattle.est_kernel.specs.declared.kernel.Kernel.{Kernel}
use Rattle.est_kernel.specs.declared.state.Inputs.{Inputs}
use Rattle.est_rounds.specs.Contract.{AreInputs}

-- the inputs that are not asked where these signals are: each other one that may be offered
abbrev pub not_asked : List Declaration → (ℕ → Bool) → ℕ → Bool
not_asked i asked n = offerable i n && not (asked n)

-- each signal that may be offered and emitted is asked
abbrev pub AreInputOutputsAsked : List Declaration → (ℕ → Bool) → Type 0
AreInputOutputsAsked i asked = (n : ℕ) → offerable i n ≡ true → emittable i n ≡ true → asked n ≡ true

-- others that may be offered to the kernel, and of those that are asked the same
pub record AgreeOn (k : Kernel) (asked inputs : ℕ → Bool) (others : Inputs) : Type 0 where
  pub offered : AreInputs k others
  pub same : (n : ℕ) → asked n ≡ true → bits others.signals n ≡ inputs n
