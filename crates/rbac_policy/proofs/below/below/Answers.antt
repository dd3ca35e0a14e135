use Rattle.rbac_policy.proofs.OfRoles.Below.{found_below}
use Rattle.rbac_policy.proofs.below.below.Goals as goal

pub returns-clause-exact : goal.returns-clause-exact
returns-clause-exact c = found_below c.args.hierarchy.now c.args.roles c.below_some.result c.below_some.ensures.found
