use Rattle.std.proofs.Common.{◌∙◌, ap}
use Rattle.std.specs.Prelude.{is_some}
use Rattle.rbac_policy.proofs.Asking.{role_test}
use Rattle.rbac_policy.proofs.policy.Policy.has_role.Goals as goal

pub returns : goal.returns
returns c = λ L st. role_test c.args.self.now L st c.args.role.now c.is_some.result
    (c.is_some.ensures ∙ ap is_some c.place_of.ensures.place)
