use Rattle.est_meaning.proofs.SignalSets.{set_env}
use Rattle.est_meaning.proofs.signal_set.put.Goals as goal

pub returns : goal.returns
returns c = set_env _ _ _ _ _ _ _ c.put_local.ensures c.put_local-2.ensures
