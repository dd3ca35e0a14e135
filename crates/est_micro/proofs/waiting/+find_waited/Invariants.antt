use Rattle.std.proofs.Common.{◌+◌, ◌*◌, max}
use Rattle.est_kernel.proofs.statement.Statement.TheLaws.{the_size}
use Rattle.est_micro.proofs.waiting.+find_waited.Given as goal

abbrev pub decreases-find_waited : goal.decreases-find_waited
decreases-find_waited l = 4 * the_size l.s.now

abbrev pub decreases-find_in_two : goal.decreases-find_in_two
decreases-find_in_two l = 4 * max (the_size l.p.now) (the_size l.q.now) + 1

abbrev pub decreases-find_in_present : goal.decreases-find_in_present
decreases-find_in_present l = 4 * max (the_size l.p.now) (the_size l.q.now) + 2

abbrev pub decreases-find_in_suspend : goal.decreases-find_in_suspend
decreases-find_in_suspend l = 4 * the_size l.p.now + 1

abbrev pub decreases-find_in_loop : goal.decreases-find_in_loop
decreases-find_in_loop l = 4 * the_size l.p.now + 1

abbrev pub decreases-find_in_local : goal.decreases-find_in_local
decreases-find_in_local l = 4 * the_size l.p.now + 1
