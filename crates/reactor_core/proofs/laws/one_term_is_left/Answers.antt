use Rattle.reactor_core.proofs.OneMeaning.{one_term}
use Rattle.reactor_core.proofs.laws.one_term_is_left.Goals as goal

pub returns : goal.returns
returns c = one_term c.one_module.ensures
