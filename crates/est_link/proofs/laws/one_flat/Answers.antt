use Rattle.est_link.proofs.Alike.{one_flat}
use Rattle.est_link.proofs.laws.one_flat.Goals as goal

pub returns : goal.returns
returns c = one_flat
