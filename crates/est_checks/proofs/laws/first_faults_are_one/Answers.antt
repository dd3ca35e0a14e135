use Rattle.est_checks.proofs.Uniqueness.{one_first_fault}
use Rattle.est_checks.proofs.laws.first_faults_are_one.Goals as goal

pub returns : goal.returns
returns c = one_first_fault
