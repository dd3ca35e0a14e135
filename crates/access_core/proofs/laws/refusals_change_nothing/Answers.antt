use Rattle.access_core.proofs.Unchanged.{admin_refused, slot_refused}
use Rattle.access_core.proofs.laws.refusals_change_nothing.Goals as goal

pub returns : goal.returns
returns c = record { policy = admin_refused; slots = slot_refused }
