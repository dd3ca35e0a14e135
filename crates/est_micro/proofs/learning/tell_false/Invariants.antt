use Rattle.std.proofs.Common.{◌≡◌}
use Rattle.est_net.specs.Cells.{AreFalse}
use Rattle.est_net.specs.Kept.{kept}
use Rattle.est_micro.proofs.learning.tell_false.Given as goal

abbrev pub invariant-loop-cell : goal.invariant-loop-cell
invariant-loop-cell l = record {
  told : AreFalse l.from l.cell l.fn.net.cells.items l.net.cells.items;
  kept : kept l.net ≡ kept l.fn.net;
}
