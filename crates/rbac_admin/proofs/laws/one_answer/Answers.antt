use Rattle.rbac_admin.proofs.OneAnswer.{one_answer}
use Rattle.rbac_admin.proofs.laws.one_answer.Goals as goal

pub returns : goal.returns
returns c = one_answer
