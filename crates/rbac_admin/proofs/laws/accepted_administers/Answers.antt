use Rattle.rbac_admin.proofs.Accepted.{accepted_administers}
use Rattle.rbac_admin.proofs.laws.accepted_administers.Goals as goal

pub returns : goal.returns
returns c = accepted_administers
