use Rattle.access_core.proofs.Stepping.{stuck_exactly}
use Rattle.access_core.proofs.laws.stuck_exactly.Goals as goal

pub returns : goal.returns
returns c = stuck_exactly c.one_module.ensures
