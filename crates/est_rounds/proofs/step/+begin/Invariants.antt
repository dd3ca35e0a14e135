use Rattle.std.proofs.Common.{◌+◌, ◌*◌, max}
use Rattle.est_kernel.proofs.statement.Statement.TheLaws.{the_size}
use Rattle.est_rounds.proofs.step.+begin.Given as goal

abbrev pub decreases-start_step : goal.decreases-start_step
decreases-start_step l = 2 * the_size l.s.now

abbrev pub decreases-start_seq : goal.decreases-start_seq
decreases-start_seq l = 2 * max (the_size l.p.now) (the_size l.q.now) + 1

abbrev pub decreases-start_par : goal.decreases-start_par
decreases-start_par l = 2 * max (the_size l.p.now) (the_size l.q.now) + 1

abbrev pub decreases-start_trap : goal.decreases-start_trap
decreases-start_trap l = 2 * the_size l.p.now + 1

abbrev pub decreases-start_local : goal.decreases-start_local
decreases-start_local l = 2 * the_size l.p.now + 1
