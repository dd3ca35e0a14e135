use Rattle.std.proofs.Common.{◌+◌, ◌*◌, max}
use Rattle.est_kernel.proofs.statement.Statement.TheLaws.{the_size}
use Rattle.est_micro.proofs.next_pauses.+collect_pauses.Given as goal

abbrev pub decreases-collect_pauses : goal.decreases-collect_pauses
decreases-collect_pauses l = 3 * the_size l.s.now + 1

abbrev pub decreases-collect_pauses_inside : goal.decreases-collect_pauses_inside
decreases-collect_pauses_inside l = 3 * the_size l.s.now

abbrev pub decreases-collect_pauses_of_two : goal.decreases-collect_pauses_of_two
decreases-collect_pauses_of_two l = 3 * max (the_size l.p.now) (the_size l.q.now) + 2

abbrev pub decreases-collect_pauses_of_suspend : goal.decreases-collect_pauses_of_suspend
decreases-collect_pauses_of_suspend l = 3 * the_size l.p.now + 2

abbrev pub decreases-collect_pauses_of_loop : goal.decreases-collect_pauses_of_loop
decreases-collect_pauses_of_loop l = 3 * the_size l.p.now + 2
