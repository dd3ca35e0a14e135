use Rattle.rbac_policy.proofs.OfNames.ObjectTexts.{operation_of-exact}
use Rattle.rbac_policy.proofs.objects.Operation.from_text.Goals as goal

pub returns-clause-exact : goal.returns-clause-exact
returns-clause-exact c = λ o. rw c.operation_of.ensures (operation_of-exact c.args.text.now o)
