use Rattle.rbac_policy.proofs.Asking.{user_test}
use Rattle.rbac_policy.proofs.policy.Policy.has_user.Goals as goal

pub returns : goal.returns
returns c = λ L st. user_test c.args.self.now L st c.args.user.now c.has_user.result c.has_user.ensures
