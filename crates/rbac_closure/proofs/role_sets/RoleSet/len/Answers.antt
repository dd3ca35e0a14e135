use Rattle.std.proofs.Common.{◌^◌, ◌<◌, ℕ, ◌∙◌, ap, subst}
use Rattle.std.specs.Prelude.{count_ones}
use Rattle.rbac_closure.specs.declared.role_sets.TheConstants.{ROLES}
use Rattle.rbac_closure.proofs.CountLemmas.{ones_are_places}
use Rattle.rbac_closure.proofs.role_sets.RoleSet.len.Goals as goal

pub returns : goal.returns
returns c = ap count_ones c.self.view_is ∙ ones_are_places c.args.self
    (subst (λ (n : ℕ). n < 2 ^ ROLES) c.self.view_is c.self.invariant)
