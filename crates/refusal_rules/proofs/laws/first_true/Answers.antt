use Rattle.refusal_rules.proofs.TestLemmas.{is_first_true}
use Rattle.refusal_rules.proofs.laws.first_true.Goals as goal

pub returns : goal.returns
returns g c = is_first_true
