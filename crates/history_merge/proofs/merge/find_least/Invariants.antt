use Rattle.history_merge.specs.Inner.Taking.{LeastOf}
use Rattle.history_merge.proofs.merge.find_least.Given as goal

abbrev pub invariant-loop-seat : goal.invariant-loop-seat
invariant-loop-seat l = LeastOf l.seats l.read l.seat l.least
