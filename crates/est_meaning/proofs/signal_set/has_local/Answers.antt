use Rattle.est_meaning.proofs.signal_set.has_local.Goals as goal
use Rattle.est_meaning.specs.Views.{set_of}

pub returns : goal.returns
unfolding set_of
returns c = c.has.ensures
