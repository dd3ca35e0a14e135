use Rattle.std.proofs.Common.{◌+◌, ◌*◌, max}
use Rattle.est_kernel.proofs.statement.Statement.TheLaws.{the_size}
use Rattle.est_rounds.proofs.resume.+doubt.Given as goal

abbrev pub decreases-resume_maybe : goal.decreases-resume_maybe
decreases-resume_maybe l = 2 * the_size l.s.now

abbrev pub decreases-suspend_maybe : goal.decreases-suspend_maybe
decreases-suspend_maybe l = 2 * the_size l.p.now + 1

abbrev pub decreases-loop_maybe : goal.decreases-loop_maybe
decreases-loop_maybe l = 2 * the_size l.p.now + 1

abbrev pub decreases-resume_par_maybe : goal.decreases-resume_par_maybe
decreases-resume_par_maybe l = 2 * max (the_size l.p.now) (the_size l.q.now) + 1

abbrev pub decreases-resume_local_maybe : goal.decreases-resume_local_maybe
decreases-resume_local_maybe l = 2 * the_size l.p.now + 1

abbrev pub decreases-seq_maybe : goal.decreases-seq_maybe
decreases-seq_maybe l = 2 * max (the_size l.p.now) (the_size l.q.now) + 1

abbrev pub decreases-resume_trap_maybe : goal.decreases-resume_trap_maybe
decreases-resume_trap_maybe l = 2 * the_size l.p.now + 1
