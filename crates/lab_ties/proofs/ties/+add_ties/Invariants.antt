use Rattle.std.proofs.Common.{◌+◌, ◌*◌, max}
use Rattle.est_kernel.proofs.statement.Statement.TheLaws.{the_size}
use Rattle.lab_ties.proofs.ties.+add_ties.Given as goal

abbrev pub decreases-add_ties : goal.decreases-add_ties
decreases-add_ties l = 4 * the_size l.s.now

abbrev pub decreases-tie_two : goal.decreases-tie_two
decreases-tie_two l = 4 * max (the_size l.p.now) (the_size l.q.now) + 1

abbrev pub decreases-tie_present : goal.decreases-tie_present
decreases-tie_present l = 4 * max (the_size l.p.now) (the_size l.q.now) + 2

abbrev pub decreases-tie_suspend : goal.decreases-tie_suspend
decreases-tie_suspend l = 4 * the_size l.p.now + 1

abbrev pub decreases-tie_loop : goal.decreases-tie_loop
decreases-tie_loop l = 4 * the_size l.p.now + 1
