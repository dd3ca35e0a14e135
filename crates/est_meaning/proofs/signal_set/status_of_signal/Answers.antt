use Rattle.est_meaning.proofs.signal_set.status_of_signal.Goals as goal
use Rattle.est_meaning.specs.Views.{env_of, set_of}

pub returns-in-Interface : goal.returns-in-Interface
unfolding env_of set_of
returns-in-Interface c = rw (c.in-Interface.is, ← c.has.ensures, ← c.has-in-Interface.ensures) c.decide.ensures

pub returns-in-Local : goal.returns-in-Local
unfolding env_of set_of
returns-in-Local c = rw c.in-Local.is c.decide_local.ensures
