use Rattle.std.proofs.Common.{◌+◌, ◌*◌, max}
use Rattle.est_kernel.proofs.statement.Statement.TheLaws.{the_size}
use Rattle.est_rounds.proofs.resume.+sure.Given as goal

abbrev pub decreases-resume_sure : goal.decreases-resume_sure
decreases-resume_sure l = 2 * the_size l.s.now

abbrev pub decreases-suspend_sure : goal.decreases-suspend_sure
decreases-suspend_sure l = 2 * the_size l.p.now + 1

abbrev pub decreases-loop_sure : goal.decreases-loop_sure
decreases-loop_sure l = 2 * the_size l.p.now + 1

abbrev pub decreases-resume_par_sure : goal.decreases-resume_par_sure
decreases-resume_par_sure l = 2 * max (the_size l.p.now) (the_size l.q.now) + 1

abbrev pub decreases-resume_local_sure : goal.decreases-resume_local_sure
decreases-resume_local_sure l = 2 * the_size l.p.now + 1

abbrev pub decreases-seq_sure : goal.decreases-seq_sure
decreases-seq_sure l = 2 * max (the_size l.p.now) (the_size l.q.now) + 1

abbrev pub decreases-resume_trap_sure : goal.decreases-resume_trap_sure
decreases-resume_trap_sure l = 2 * the_size l.p.now + 1
