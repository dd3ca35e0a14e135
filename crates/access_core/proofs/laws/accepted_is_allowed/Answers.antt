use Rattle.access_core.proofs.Unchanged.{accepted_is_allowed}
use Rattle.access_core.proofs.laws.accepted_is_allowed.Goals as goal

pub returns : goal.returns
returns c = accepted_is_allowed
