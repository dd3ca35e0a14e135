use Rattle.est_syntax.proofs.Runs.{run_library}
use Rattle.est_syntax.proofs.Stops.{syntax_fault, too_deep}
use Rattle.est_syntax.proofs.laws.machine.Goals as goal

pub returns-clause-takes : goal.returns-clause-takes
returns-clause-takes c = run_library

pub returns-clause-wrong : goal.returns-clause-wrong
returns-clause-wrong c = syntax_fault

pub returns-clause-deep : goal.returns-clause-deep
returns-clause-deep c = too_deep
