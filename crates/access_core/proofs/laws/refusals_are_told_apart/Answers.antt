use Rattle.access_core.proofs.Rows.{told_apart}
use Rattle.access_core.proofs.laws.refusals_are_told_apart.Goals as goal

pub returns : goal.returns
returns c = told_apart
