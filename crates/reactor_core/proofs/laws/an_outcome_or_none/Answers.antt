use Rattle.reactor_core.proofs.OneMeaning.{not_both}
use Rattle.reactor_core.proofs.laws.an_outcome_or_none.Goals as goal

pub returns : goal.returns
returns c = not_both c.one_module.ensures
