use Rattle.history_laws.proofs.InTurn.{one_run}
use Rattle.history_laws.proofs.laws.journals_are_of_one_run.Goals as goal

pub returns : goal.returns
returns c = one_run
