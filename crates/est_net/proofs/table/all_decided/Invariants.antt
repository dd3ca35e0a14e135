use Rattle.std.proofs.Common.{◌≡◌, ◌↔◌, true}
use Rattle.est_net.specs.Cells.{AllDecided}
use Rattle.est_net.proofs.table.all_decided.Given as goal

abbrev pub invariant-loop-cell : goal.invariant-loop-cell
invariant-loop-cell l = (l.all ≡ true) ↔ AllDecided l.from l.cell l.cells
