use Rattle.std.proofs.Common.{◌+◌, ◌*◌, max}
use Rattle.est_kernel.proofs.statement.Statement.TheLaws.{the_size}
use Rattle.est_rounds.proofs.resume_step.+resume.Given as goal

abbrev pub decreases-resume_step : goal.decreases-resume_step
decreases-resume_step l = 2 * the_size l.s.now

abbrev pub decreases-resume_suspend : goal.decreases-resume_suspend
decreases-resume_suspend l = 2 * the_size l.p.now + 1

abbrev pub decreases-resume_seq : goal.decreases-resume_seq
decreases-resume_seq l = 2 * max (the_size l.p.now) (the_size l.q.now) + 1

abbrev pub decreases-resume_loop : goal.decreases-resume_loop
decreases-resume_loop l = 2 * the_size l.p.now + 1

abbrev pub decreases-resume_par : goal.decreases-resume_par
decreases-resume_par l = 2 * max (the_size l.p.now) (the_size l.q.now) + 1

abbrev pub decreases-resume_trap : goal.decreases-resume_trap
decreases-resume_trap l = 2 * the_size l.p.now + 1

abbrev pub decreases-resume_local : goal.decreases-resume_local
decreases-resume_local l = 2 * the_size l.p.now + 1
