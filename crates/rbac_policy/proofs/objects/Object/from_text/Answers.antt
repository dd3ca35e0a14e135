use Rattle.rbac_policy.proofs.OfNames.ObjectTexts.{object_of-exact}
use Rattle.rbac_policy.proofs.objects.Object.from_text.Goals as goal

pub returns-clause-exact : goal.returns-clause-exact
returns-clause-exact c = λ o. rw c.object_of.ensures (object_of-exact c.args.text.now o)
