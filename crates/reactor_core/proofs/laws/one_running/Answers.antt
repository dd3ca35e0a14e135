use Rattle.reactor_core.proofs.OneMeaning.{same_running}
use Rattle.reactor_core.proofs.laws.one_running.Goals as goal

pub returns : goal.returns
returns c = same_running c.one_module.ensures
