use Rattle.std.proofs.Common.{◌+◌, ◌*◌, max}
use Rattle.est_kernel.proofs.statement.Statement.TheLaws.{the_size}
use Rattle.est_micro.proofs.sweep_resume.+sweep_resumed.Given as goal

abbrev pub decreases-sweep_resumed : goal.decreases-sweep_resumed
decreases-sweep_resumed g l = 4 * the_size l.s.now + 1

abbrev pub decreases-resume_each : goal.decreases-resume_each
decreases-resume_each g l = 4 * the_size l.s.now

abbrev pub decreases-sweep_part : goal.decreases-sweep_part
decreases-sweep_part g l = 4 * the_size l.p.now + 2

abbrev pub decreases-resume_present : goal.decreases-resume_present
decreases-resume_present g l = 4 * max (the_size l.p.now) (the_size l.q.now) + 3

abbrev pub decreases-resume_suspend : goal.decreases-resume_suspend
decreases-resume_suspend g l = 4 * the_size l.p.now + 3

abbrev pub decreases-resume_seq : goal.decreases-resume_seq
decreases-resume_seq g l = 4 * max (the_size l.p.now) (the_size l.q.now) + 3

abbrev pub decreases-resume_loop : goal.decreases-resume_loop
decreases-resume_loop g l = 4 * the_size l.p.now + 3

abbrev pub decreases-resume_par : goal.decreases-resume_par
decreases-resume_par g l = 4 * max (the_size l.p.now) (the_size l.q.now) + 3

abbrev pub decreases-resume_par_back : goal.decreases-resume_par_back
decreases-resume_par_back g l = 4 * max (the_size l.p.now) (the_size l.q.now) + 3

abbrev pub decreases-resume_trap : goal.decreases-resume_trap
decreases-resume_trap g l = 4 * the_size l.p.now + 3

abbrev pub decreases-resume_local : goal.decreases-resume_local
decreases-resume_local g l = 4 * the_size l.p.now + 3

abbrev pub decreases-resume_second : goal.decreases-resume_second
decreases-resume_second g l = 4 * max (the_size l.p.now) (the_size l.q.now) + 2
