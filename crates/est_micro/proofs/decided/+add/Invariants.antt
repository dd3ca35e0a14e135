use Rattle.std.proofs.Common.{◌+◌, ◌*◌, max}
use Rattle.est_kernel.proofs.statement.Statement.TheLaws.{the_size}
use Rattle.est_micro.proofs.decided.+add.Given as goal

abbrev pub decreases-add_both : goal.decreases-add_both
decreases-add_both l = 3 * max (the_size l.p.now) (the_size l.q.now) + 2

abbrev pub decreases-add_part : goal.decreases-add_part
decreases-add_part l = 3 * the_size l.s.now + 1

abbrev pub decreases-add_loop : goal.decreases-add_loop
decreases-add_loop l = 3 * the_size l.p.now + 2

abbrev pub decreases-add_local : goal.decreases-add_local
decreases-add_local l = 3 * the_size l.p.now + 2

abbrev pub decreases-add_emitted : goal.decreases-add_emitted
decreases-add_emitted l = 3 * the_size l.s.now
