use Rattle.std.proofs.Common.{◌+◌, ◌*◌, max}
use Rattle.est_kernel.proofs.statement.Statement.TheLaws.{the_size}
use Rattle.est_micro.proofs.sweep_begin.+sweep_begun.Given as goal

abbrev pub decreases-sweep_begun : goal.decreases-sweep_begun
decreases-sweep_begun g l = 5 * the_size l.s.now + 2

abbrev pub decreases-begin_known : goal.decreases-begin_known
decreases-begin_known g l = 5 * the_size l.s.now + 1

abbrev pub decreases-sweep_side : goal.decreases-sweep_side
decreases-sweep_side g l = 5 * the_size l.s.now + 3

abbrev pub decreases-begin_present : goal.decreases-begin_present
decreases-begin_present g l = 5 * max (the_size l.p.now) (the_size l.q.now) + 4

abbrev pub decreases-begin_suspend : goal.decreases-begin_suspend
decreases-begin_suspend g l = 5 * the_size l.p.now + 4

abbrev pub decreases-begin_seq : goal.decreases-begin_seq
decreases-begin_seq g l = 5 * max (the_size l.p.now) (the_size l.q.now) + 4

abbrev pub decreases-begin_loop : goal.decreases-begin_loop
decreases-begin_loop g l = 5 * the_size l.p.now + 4

abbrev pub decreases-begin_again : goal.decreases-begin_again
decreases-begin_again g l = 5 * the_size l.p.now + 4

abbrev pub decreases-begin_par : goal.decreases-begin_par
decreases-begin_par g l = 5 * max (the_size l.p.now) (the_size l.q.now) + 4

abbrev pub decreases-begin_par_back : goal.decreases-begin_par_back
decreases-begin_par_back g l = 5 * max (the_size l.p.now) (the_size l.q.now) + 4

abbrev pub decreases-begin_trap : goal.decreases-begin_trap
decreases-begin_trap g l = 5 * the_size l.p.now + 4

abbrev pub decreases-begin_local : goal.decreases-begin_local
decreases-begin_local g l = 5 * the_size l.p.now + 4

abbrev pub decreases-begin_each : goal.decreases-begin_each
decreases-begin_each g l = 5 * the_size l.s.now
