use Rattle.std.proofs.Common.{◌≡◌, ℕ, ◌<◌, true}
use Rattle.est_order.specs.RunRows.{rows_of}
use Rattle.est_order.specs.Inner.Levels.{runs_lower}
use Rattle.est_order.proofs.levels.first_not_falling.Given as goal

abbrev pub invariant-loop-place : goal.invariant-loop-place
invariant-loop-place l = (p : ℕ) → p < l.place → runs_lower (rows_of l.runs) l.levels p ≡ true
