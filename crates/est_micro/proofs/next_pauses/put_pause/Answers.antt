use Rattle.est_kernel.specs.Pauses.{pauses_of}
use Rattle.est_micro.proofs.Collecting.{pause_put, no_pause_put}
use Rattle.est_micro.proofs.next_pauses.put_pause.Goals as goal

pub returns-then-is_in : goal.returns-then-is_in
returns-then-is_in c =
    pause_put (pauses_of c.insert.new.self) (pauses_of c.args.next.now) c.args.n.index c.args.is_in c.if-is_in.true
    c.insert.ensures.same c.insert.ensures.others

pub returns-else-is_in : goal.returns-else-is_in
returns-else-is_in c = no_pause_put (pauses_of c.args.next.now) c.args.n.index c.args.is_in c.if-is_in.false
