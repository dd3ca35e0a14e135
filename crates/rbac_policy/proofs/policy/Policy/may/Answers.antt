use Rattle.std.proofs.Common.{rules, sym, ◌∙◌}
use Rattle.rbac_policy.proofs.Asking.{may_no_session, may_no_grant, may_found}
use Rattle.rbac_policy.proofs.policy.Policy.may.Goals as goal

pub returns-in-Some-grant_of : goal.returns-in-Some-grant_of
returns-in-Some-grant_of c = λ L st.
    let f = may_found c.args.self.now L st c.args.session c.args.operation.now c.args.object.now c.in-Some.found
    c.in-Some-grant_of.grant
    (sym c.session_of.ensures ∙ c.in-Some.is) (sym c.grant_of.ensures ∙ c.in-Some-grant_of.is) in
    (λ t. f.0 (c.reaches.ensures.0 t), λ m. c.reaches.ensures.1 (f.1 m))

pub returns-in-None-grant_of : goal.returns-in-None-grant_of
returns-in-None-grant_of c = λ L st. (
  λ t. absurd (search (rules, t)),
  λ m. absurd
      (may_no_grant c.args.self.now L st c.args.session c.args.operation.now c.args.object.now
      (sym c.grant_of.ensures ∙ c.in-None-grant_of.is) m),
)

pub returns-in-None : goal.returns-in-None
returns-in-None c = λ L st. (
  λ t. absurd (search (rules, t)),
  λ m. absurd
      (may_no_session c.args.self.now L st c.args.session c.args.operation.now c.args.object.now
      (sym c.session_of.ensures ∙ c.in-None.is) m),
)
