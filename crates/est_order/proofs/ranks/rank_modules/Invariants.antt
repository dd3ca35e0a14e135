use Rattle.std.proofs.Common.{ℕ, ◌<◌}
use Rattle.est_order.specs.RunRows.{rows_of, IsRecursive}
use Rattle.est_order.specs.Inner.Reached.{AreRanks}
use Rattle.est_order.proofs.ranks.rank_modules.Given as goal

abbrev pub invariant-loop-place : goal.invariant-loop-place
invariant-loop-place l = record {
  ranks : AreRanks (rows_of l.runs) l.place l.ranks.items;
  none : (before : ℕ) → before < l.place → IsRecursive (rows_of l.runs) before → ⊥;
}
