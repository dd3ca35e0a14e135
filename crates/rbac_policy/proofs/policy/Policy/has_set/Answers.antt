use Rattle.rbac_policy.proofs.OfReaders.ReadingSets.{set_test}
use Rattle.rbac_policy.proofs.policy.Policy.has_set.Goals as goal

pub returns : goal.returns
returns c = λ L st. set_test c.args.self.now L st c.args.set.now c.has_set.result c.has_set.ensures
