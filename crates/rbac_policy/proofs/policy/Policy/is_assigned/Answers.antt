use Rattle.std.proofs.Common.{rules, sym, ◌∙◌}
use Rattle.rbac_policy.proofs.Asking.{no_role}
use Rattle.rbac_policy.proofs.OfReaders.ReadingRoles.{assigned_test, assigned_role}
use Rattle.rbac_policy.proofs.policy.Policy.is_assigned.Goals as goal

pub returns-in-Some : goal.returns-in-Some
returns-in-Some c = λ L st.
    assigned_test c.args.self.now L st c.args.user.now c.args.role.now c.roles_of.result c.in-Some.place c.has.result
    (sym c.place_of.ensures.place ∙ c.in-Some.is) c.roles_of.ensures c.has.ensures

pub returns-in-None : goal.returns-in-None
returns-in-None c = λ L st. (
  λ t. absurd (search (rules, t)),
  λ a. absurd
      (no_role c.args.self.now L st c.args.role.now (sym c.place_of.ensures.place ∙ c.in-None.is)
      (assigned_role c.args.self.now L st c.args.user.now c.args.role.now a)),
)
