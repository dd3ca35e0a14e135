use Rattle.std.proofs.Common.{rules, sym, ◌∙◌}
use Rattle.rbac_policy.proofs.Asking.{no_role}
use Rattle.rbac_policy.proofs.OfReaders.ReadingOrder.{edge_test, edge_junior}
use Rattle.rbac_policy.proofs.policy.Policy.has_edge.Goals as goal

pub returns-in-Some-place_of : goal.returns-in-Some-place_of
returns-in-Some-place_of c = λ L st.
    edge_test c.args.self.now L st c.args.senior.now c.args.junior.now c.in-Some.above c.in-Some-place_of.place
    c.has_edge.result
    (sym c.place_of.ensures.place ∙ c.in-Some.is) (sym c.place_of-in-Some.ensures.place ∙ c.in-Some-place_of.is)
    c.has_edge.ensures

pub returns-in-None-place_of : goal.returns-in-None-place_of
returns-in-None-place_of c = λ L st.
    let p = c.args.self.now in (
      λ t. absurd (search (rules, t)),
      λ e. absurd
          (no_role p L st c.args.junior.now (sym c.place_of-in-Some.ensures.place ∙ c.in-None-place_of.is)
          (edge_junior p L st c.args.senior.now c.args.junior.now e)),
    )

pub returns-in-None : goal.returns-in-None
returns-in-None c = λ L st. (
  λ t. absurd (search (rules, t)),
  λ e. absurd
      (no_role c.args.self.now L st c.args.senior.now (sym c.place_of.ensures.place ∙ c.in-None.is)
      (st.roles.only_roles c.args.senior.now c.args.junior.now e)),
)
