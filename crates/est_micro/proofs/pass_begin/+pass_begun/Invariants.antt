use Rattle.std.proofs.Common.{◌+◌, ◌*◌, max}
use Rattle.est_kernel.proofs.statement.Statement.TheLaws.{the_size}
use Rattle.est_micro.proofs.pass_begin.+pass_begun.Given as goal

abbrev pub decreases-pass_begun : goal.decreases-pass_begun
decreases-pass_begun l = 3 * the_size l.s.now + 1

abbrev pub decreases-pass_parts : goal.decreases-pass_parts
decreases-pass_parts l = 3 * the_size l.s.now

abbrev pub decreases-pass_par : goal.decreases-pass_par
decreases-pass_par l = 3 * max (the_size l.p.now) (the_size l.q.now) + 2

abbrev pub decreases-pass_seq : goal.decreases-pass_seq
decreases-pass_seq l = 3 * max (the_size l.p.now) (the_size l.q.now) + 2

abbrev pub decreases-pass_body : goal.decreases-pass_body
decreases-pass_body l = 3 * the_size l.p.now + 2
