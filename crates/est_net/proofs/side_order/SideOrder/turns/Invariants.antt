use Rattle.std.proofs.Common.{◌<◌}
use Rattle.est_net.proofs.side_order.SideOrder.turns.Given as goal

abbrev pub invariant-loop-n : goal.invariant-loop-n
invariant-loop-n l = l.with_text < l.n
