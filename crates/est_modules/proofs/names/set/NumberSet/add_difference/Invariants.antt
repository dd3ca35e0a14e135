use Rattle.std.proofs.Common.{◌≡◌, ◌||◌, ◌&&◌, ◌/◌, not, ℕ, nat_lt}
use Rattle.est_modules.specs.NumberSets.{numbers_of}
use Rattle.est_modules.proofs.names.set.NumberSet.add_difference.Given as goal

abbrev pub invariant-loop-place : goal.invariant-loop-place
invariant-loop-place l = (i : ℕ) → numbers_of l.self i ≡ (numbers_of l.fn.self i
    || (nat_lt (i / 64) l.place && (numbers_of l.first i && not (numbers_of l.second i))))
