use Rattle.std.proofs.Common.{◌∙◌, ap}
use Rattle.std.specs.Prelude.{is_some}
use Rattle.rbac_policy.proofs.OfReaders.Reading.{pair_test}
use Rattle.rbac_policy.proofs.policy.Policy.is_pair_granted.Goals as goal

pub returns : goal.returns
returns c = λ L st. pair_test c.args.self.now L st c.args.operation.now c.args.object.now c.is_some.result
    (c.is_some.ensures ∙ ap is_some c.grant_of.ensures)
