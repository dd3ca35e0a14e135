use Rattle.reactor_core.proofs.OneMeaning.{same_outcome}
use Rattle.reactor_core.proofs.laws.one_outcome.Goals as goal

pub returns : goal.returns
returns c = same_outcome c.one_module.ensures
