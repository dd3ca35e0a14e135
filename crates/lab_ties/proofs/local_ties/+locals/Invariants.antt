use Rattle.std.proofs.Common.{◌+◌, ◌*◌, max}
use Rattle.est_kernel.proofs.statement.Statement.TheLaws.{the_size}
use Rattle.lab_ties.proofs.local_ties.+locals.Given as goal

abbrev pub decreases-tie_locals : goal.decreases-tie_locals
decreases-tie_locals l = 4 * the_size l.s.now

abbrev pub decreases-tie_locals_of_two : goal.decreases-tie_locals_of_two
decreases-tie_locals_of_two l = 4 * max (the_size l.p.now) (the_size l.q.now) + 1

abbrev pub decreases-tie_locals_of_loop : goal.decreases-tie_locals_of_loop
decreases-tie_locals_of_loop l = 4 * the_size l.p.now + 1

abbrev pub decreases-tie_local : goal.decreases-tie_local
decreases-tie_local l = 4 * the_size l.p.now + 1
