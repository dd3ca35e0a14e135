use Rattle.std.proofs.Common.{◌≡◌, ◌↔◌, true}
use Rattle.est_net.specs.Cells.{AllOpen}
use Rattle.est_net.proofs.table.all_open.Given as goal

abbrev pub invariant-loop-cell : goal.invariant-loop-cell
invariant-loop-cell l = (l.all ≡ true) ↔ AllOpen l.from l.cell l.cells
