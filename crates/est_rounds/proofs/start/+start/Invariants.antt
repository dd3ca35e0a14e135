use Rattle.std.proofs.Common.{◌+◌, ◌*◌, max}
use Rattle.est_kernel.proofs.statement.Statement.TheLaws.{the_size}
use Rattle.est_rounds.proofs.start.+start.Given as goal

abbrev pub decreases-start_sure : goal.decreases-start_sure
decreases-start_sure l = 2 * the_size l.s.now

abbrev pub decreases-start_par_sure : goal.decreases-start_par_sure
decreases-start_par_sure l = 2 * max (the_size l.p.now) (the_size l.q.now) + 1

abbrev pub decreases-start_trap_sure : goal.decreases-start_trap_sure
decreases-start_trap_sure l = 2 * the_size l.p.now + 1

abbrev pub decreases-start_local_sure : goal.decreases-start_local_sure
decreases-start_local_sure l = 2 * the_size l.p.now + 1

abbrev pub decreases-then_start : goal.decreases-then_start
decreases-then_start l = 2 * the_size l.q.now + 1
