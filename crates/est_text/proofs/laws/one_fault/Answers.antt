use Rattle.est_text.proofs.OneCut.{faults_are_one, tokens_or_fault}
use Rattle.est_text.proofs.laws.one_fault.Goals as goal

pub returns-clause-same : goal.returns-clause-same
returns-clause-same c = faults_are_one

pub returns-clause-no_tokens : goal.returns-clause-no_tokens
returns-clause-no_tokens c = tokens_or_fault
