use Rattle.est_meaning.proofs.SignalSets.{no_signals_set}
use Rattle.est_meaning.proofs.signal_set.no_signal.Goals as goal

pub returns : goal.returns
returns c = no_signals_set
