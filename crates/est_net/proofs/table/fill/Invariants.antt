use Rattle.std.proofs.Common.{◌≡◌, ◌+◌}
use Rattle.est_net.specs.Cells.{AreFalse, decided}
use Rattle.est_net.proofs.table.fill.Given as goal

abbrev pub invariant-loop-cell : goal.invariant-loop-cell
invariant-loop-cell l = record {
  filled : AreFalse l.from l.cell l.fn.cells l.cells;
  count : decided l.cells + l.from ≡ decided l.fn.cells + l.cell;
}
