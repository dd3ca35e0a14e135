use Rattle.std.proofs.Common.{◌+◌, ◌*◌, max}
use Rattle.est_kernel.proofs.statement.Statement.TheLaws.{the_size}
use Rattle.est_micro.proofs.closing.+close.Given as goal

abbrev pub decreases-close : goal.decreases-close
decreases-close l = 2 * the_size l.s.now

abbrev pub decreases-close_par : goal.decreases-close_par
decreases-close_par l = 2 * max (the_size l.p.now) (the_size l.q.now) + 1
