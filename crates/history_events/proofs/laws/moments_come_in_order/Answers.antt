use Rattle.history_events.proofs.Following.{run_comes}
use Rattle.history_events.proofs.laws.moments_come_in_order.Goals as goal

pub returns : goal.returns
returns c = run_comes
