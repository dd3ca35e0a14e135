use Rattle.est_net.proofs.Extending.{run_joined}
use Rattle.est_net.proofs.extents.joined.Goals as goal

pub returns-then-p-q : goal.returns-then-p-q
returns-then-p-q c = λ f g h k.
    run_joined f g c.in_ok-p.p c.in_ok-q.q c.if-p-q.true (rw c.in_ok-p.was at h) (rw c.in_ok-q.was at k)
