use Rattle.rbac_admin.proofs.Accepted.{accepted_again}
use Rattle.rbac_admin.proofs.laws.accepted_again.Goals as goal

pub returns : goal.returns
returns c = accepted_again
