use Rattle.rbac_admin.proofs.Accepted.{accepted_entry}
use Rattle.rbac_admin.proofs.laws.accepted_entry.Goals as goal

pub returns : goal.returns
returns c = accepted_entry
