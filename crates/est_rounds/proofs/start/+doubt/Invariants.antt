use Rattle.std.proofs.Common.{◌+◌, ◌*◌, max}
use Rattle.est_kernel.proofs.statement.Statement.TheLaws.{the_size}
use Rattle.est_rounds.proofs.start.+doubt.Given as goal

abbrev pub decreases-start_maybe : goal.decreases-start_maybe
decreases-start_maybe l = 2 * the_size l.s.now

abbrev pub decreases-start_par_maybe : goal.decreases-start_par_maybe
decreases-start_par_maybe l = 2 * max (the_size l.p.now) (the_size l.q.now) + 1

abbrev pub decreases-start_trap_maybe : goal.decreases-start_trap_maybe
decreases-start_trap_maybe l = 2 * the_size l.p.now + 1

abbrev pub decreases-start_local_maybe : goal.decreases-start_local_maybe
decreases-start_local_maybe l = 2 * the_size l.p.now + 1

abbrev pub decreases-then_start_maybe : goal.decreases-then_start_maybe
decreases-then_start_maybe l = 2 * the_size l.q.now + 1
