use Rattle.std.proofs.Common.{◌+◌, ◌*◌, max}
use Rattle.est_kernel.proofs.statement.Statement.TheLaws.{the_size}
use Rattle.est_micro.proofs.next_pauses.+keep_pauses.Given as goal

abbrev pub decreases-keep_pauses : goal.decreases-keep_pauses
decreases-keep_pauses l = 2 * the_size l.s.now

abbrev pub decreases-keep_pauses_of_two : goal.decreases-keep_pauses_of_two
decreases-keep_pauses_of_two l = 2 * max (the_size l.p.now) (the_size l.q.now) + 1
