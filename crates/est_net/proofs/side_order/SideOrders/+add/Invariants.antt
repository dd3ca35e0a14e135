use Rattle.std.proofs.Common.{◌+◌, ◌*◌, max}
use Rattle.est_kernel.proofs.statement.Statement.TheLaws.{the_size}
use Rattle.est_net.proofs.side_order.SideOrders.+add.Given as goal

abbrev pub decreases-add : goal.decreases-add
decreases-add l = 2 * the_size l.s.now

abbrev pub decreases-add_two : goal.decreases-add_two
decreases-add_two l = 2 * max (the_size l.p.now) (the_size l.q.now) + 1
