use Rattle.est_left.proofs.Alike.{one_state}
use Rattle.est_left.proofs.order.one_state_of_alike.Goals as goal

pub returns : goal.returns
returns c one other state same first second = one_state one other state same first second
