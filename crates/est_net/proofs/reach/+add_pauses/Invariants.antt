use Rattle.std.proofs.Common.{◌+◌, ◌*◌, max}
use Rattle.est_kernel.proofs.statement.Statement.TheLaws.{the_size}
use Rattle.est_net.proofs.reach.+add_pauses.Given as goal

abbrev pub decreases-add_pauses : goal.decreases-add_pauses
decreases-add_pauses l = 2 * the_size l.s.now

abbrev pub decreases-add_pauses_of_two : goal.decreases-add_pauses_of_two
decreases-add_pauses_of_two l = 2 * max (the_size l.p.now) (the_size l.q.now) + 1

abbrev pub decreases-add_seq : goal.decreases-add_seq
decreases-add_seq l = 2 * max (the_size l.p.now) (the_size l.q.now) + 1

abbrev pub decreases-add_loop : goal.decreases-add_loop
decreases-add_loop l = 2 * the_size l.p.now + 1
