use Rattle.history_merge.proofs.Going.{State}
use Rattle.history_merge.proofs.Ending.{left}
use Rattle.history_merge.proofs.compare.compare.Given as goal

abbrev pub invariant-loop-seat : goal.invariant-loop-seat
invariant-loop-seat l = State l.policy l.journals l.seats l.taken

abbrev pub decreases-loop-seat : goal.decreases-loop-seat
decreases-loop-seat l = left l.seats l.taken.read
