use Rattle.std.proofs.Common.{rules}
use Rattle.rbac_closure.proofs.SetLemmas.{common_place, no_common_place}
use Rattle.rbac_closure.proofs.role_sets.RoleSet.meets.Goals as goal

pub returns : goal.returns
returns c = (
  λ t. common_place c.args.self c.args.other (λ e. search (rules, t, e)),
  λ m. search (rules, no_common_place c.args.self c.args.other m),
)
