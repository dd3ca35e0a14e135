use Rattle.std.proofs.Common.{◌+◌, ◌*◌, max}
use Rattle.est_kernel.proofs.statement.Statement.TheLaws.{the_size}
use Rattle.est_micro.proofs.pass_resume.+pass_resumed.Given as goal

abbrev pub decreases-pass_resumed : goal.decreases-pass_resumed
decreases-pass_resumed l = 5 * the_size l.s.now + 1

abbrev pub decreases-pass_resumed_parts : goal.decreases-pass_resumed_parts
decreases-pass_resumed_parts l = 5 * the_size l.s.now

abbrev pub decreases-pass_side : goal.decreases-pass_side
decreases-pass_side l = 5 * the_size l.p.now + 2

abbrev pub decreases-pass_resumed_par : goal.decreases-pass_resumed_par
decreases-pass_resumed_par l = 5 * max (the_size l.p.now) (the_size l.q.now) + 3

abbrev pub decreases-pass_resumed_first : goal.decreases-pass_resumed_first
decreases-pass_resumed_first l = 5 * max (the_size l.p.now) (the_size l.q.now) + 3

abbrev pub decreases-pass_resumed_seq : goal.decreases-pass_resumed_seq
decreases-pass_resumed_seq l = 5 * max (the_size l.p.now) (the_size l.q.now) + 4

abbrev pub decreases-pass_resumed_loop : goal.decreases-pass_resumed_loop
decreases-pass_resumed_loop l = 5 * the_size l.p.now + 3
