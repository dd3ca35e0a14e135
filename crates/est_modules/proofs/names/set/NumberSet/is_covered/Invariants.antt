use Rattle.std.proofs.Common.{◌≡◌, ◌||◌, ◌/◌, ◌<◌, ℕ, true}
use Rattle.est_modules.specs.NumberSets.{numbers_of}
use Rattle.est_modules.proofs.names.set.NumberSet.is_covered.Given as goal

abbrev pub invariant-loop-place : goal.invariant-loop-place
invariant-loop-place l = (i : ℕ) → i / 64 < l.place → numbers_of l.self i ≡ true
    → (numbers_of l.first i || numbers_of l.second i) ≡ true
