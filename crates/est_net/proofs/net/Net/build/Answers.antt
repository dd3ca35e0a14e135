use Rattle.est_net.proofs.CellSets.{marks_opened}
use Rattle.est_net.proofs.net.Net.build.Goals as goal

pub invariant_of-result-clause-marks : goal.invariant_of-result-clause-marks
invariant_of-result-clause-marks c =
    rw c.in_ok-cells.ensures (marks_opened c.in_ok-with_room.field-0.words.items _ c.in_ok-with_room.ensures.empty)
