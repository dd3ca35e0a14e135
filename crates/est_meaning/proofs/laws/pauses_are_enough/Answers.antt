use Rattle.est_meaning.proofs.PausesAreEnough.{goes_on_from}
use Rattle.est_meaning.proofs.SafeLoopLemmas.{safe_for}
use Rattle.est_meaning.proofs.laws.pauses_are_enough.Goals as goal

pub returns : goal.returns
returns c = record { goes_on = goes_on_from; safe = safe_for }
