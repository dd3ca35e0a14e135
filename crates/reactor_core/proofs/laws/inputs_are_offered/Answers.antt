use Rattle.reactor_core.proofs.Offering.{pending_is_offered, takes_offers}
use Rattle.reactor_core.proofs.laws.inputs_are_offered.Goals as goal

pub returns : goal.returns
returns c = record { pending = pending_is_offered; taken = takes_offers }
