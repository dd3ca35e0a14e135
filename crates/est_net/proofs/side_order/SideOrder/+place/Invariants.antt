use Rattle.std.proofs.Common.{◌<◌}
use Rattle.est_net.proofs.side_order.SideOrder.+place.Given as goal

abbrev pub decreases-place : goal.decreases-place
decreases-place l = l.depth

abbrev pub invariant-loop-other : goal.invariant-loop-other
invariant-loop-other l = l.side < l.uses.count
