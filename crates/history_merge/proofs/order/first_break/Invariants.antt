use Rattle.history_merge.proofs.Risings.{Risen}
use Rattle.history_merge.proofs.order.first_break.Given as goal

abbrev pub invariant-loop-n : goal.invariant-loop-n
invariant-loop-n l = Risen l.kept l.n l.version l.number
