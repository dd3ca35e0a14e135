use Rattle.std.proofs.Common.{◌+◌, ◌*◌, max}
use Rattle.est_kernel.proofs.statement.Statement.TheLaws.{the_size}
use Rattle.est_net.proofs.extents.+add_extents.Given as goal

abbrev pub decreases-add_extents : goal.decreases-add_extents
decreases-add_extents l = 3 * the_size l.s.now + 1

abbrev pub decreases-add_parts : goal.decreases-add_parts
decreases-add_parts l = 3 * the_size l.s.now

abbrev pub decreases-add_extents_of_two : goal.decreases-add_extents_of_two
decreases-add_extents_of_two l = 3 * max (the_size l.p.now) (the_size l.q.now) + 2
