use Rattle.reactor_core.proofs.OneMeaning.{ready_or_lacking}
use Rattle.reactor_core.proofs.laws.ready_or_lacking.Goals as goal

pub returns : goal.returns
returns c = ready_or_lacking c.one_module.ensures
