use Rattle.std.proofs.Common.{◌∙◌, ap}
use Rattle.std.specs.Prelude.{is_some}
use Rattle.rbac_policy.proofs.Asking.{session_test}
use Rattle.rbac_policy.proofs.policy.Policy.lives.Goals as goal

pub returns : goal.returns
returns c = λ L st. session_test c.args.self.now L st c.args.session c.is_some.result
    (c.is_some.ensures ∙ ap is_some c.session_of.ensures)
