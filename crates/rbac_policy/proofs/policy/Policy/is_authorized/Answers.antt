use Rattle.std.proofs.Common.{rules, ◌∙◌, sym, ap}
use Rattle.rbac_policy.specs.Order.{below}
use Rattle.rbac_policy.proofs.Asking.{no_role}
use Rattle.rbac_policy.proofs.OfReaders.Reading.{authorized_test}
use Rattle.rbac_policy.proofs.policy.Policy.is_authorized.Goals as goal

pub returns-in-Some : goal.returns-in-Some
returns-in-Some c = λ L st.
    let p = c.args.self.now in
    authorized_test p L st c.args.user.now c.args.role.now c.in-Some.place c.below.result c.has.result
    (sym c.place_of.ensures.place ∙ c.in-Some.is)
    (c.below.ensures.exact ∙ ap (below c.args.self.now.juniors) c.roles_of.ensures) c.has.ensures

pub returns-in-None : goal.returns-in-None
returns-in-None c = λ L st. (
  λ t. absurd (search (rules, t)),
  λ a.
      absurd (no_role c.args.self.now L st c.args.role.now (sym c.place_of.ensures.place ∙ c.in-None.is) a.exists),
)
