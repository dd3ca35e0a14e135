use Rattle.std.proofs.Common.{◌+◌, ◌-◌, length}
use Rattle.lab_instant.proofs.Cells.{AreReadBefore}
use Rattle.lab_instant.proofs.reading.add_all.Given as goal

abbrev pub invariant-loop-place : goal.invariant-loop-place
invariant-loop-place l = AreReadBefore l.cells l.net.cells.items l.first l.at l.began.items l.went_on.items

abbrev pub decreases-loop-place : goal.decreases-loop-place
decreases-loop-place l = l.first + length l.cells - l.at
