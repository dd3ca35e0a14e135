use Rattle.std.proofs.Common.{◌≡◌, ℕ, ◌<◌, true}
use Rattle.est_order.specs.RunRows.{rows_of}
use Rattle.est_order.specs.Inner.Levels.{runs_no_higher}
use Rattle.est_order.proofs.levels.none_climbs.Given as goal

abbrev pub invariant-loop-runner : goal.invariant-loop-runner
invariant-loop-runner l = (p : ℕ) → p < l.runner → runs_no_higher (rows_of l.runs) l.levels p ≡ true
