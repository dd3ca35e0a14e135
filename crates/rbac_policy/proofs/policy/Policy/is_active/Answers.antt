use Rattle.std.proofs.Common.{rules, sym, ◌∙◌}
use Rattle.rbac_policy.proofs.Asking.{no_role}
use Rattle.rbac_policy.proofs.OfReaders.ReadingRoles.{active_test, active_mask, mask_role, no_live}
use Rattle.rbac_policy.proofs.policy.Policy.is_active.Goals as goal

pub returns-in-Some-place_of : goal.returns-in-Some-place_of
returns-in-Some-place_of c = λ L st.
    active_test c.args.self.now L st c.args.session c.in-Some.found c.args.role.now c.in-Some-place_of.place
    c.has.result
    (sym c.session_of.ensures ∙ c.in-Some.is) (sym c.place_of.ensures.place ∙ c.in-Some-place_of.is) c.has.ensures

pub returns-in-None-place_of : goal.returns-in-None-place_of
returns-in-None-place_of c = λ L st.
    let p = c.args.self.now in
    let r = c.args.role.now in
    let slot = active_mask p L st c.args.session c.in-Some.found r (sym c.session_of.ensures ∙ c.in-Some.is) in (
      λ t. absurd (search (rules, t)),
      λ h. absurd
          (no_role p L st r (sym c.place_of.ensures.place ∙ c.in-None-place_of.is) (mask_role p L st r _ (slot.0 h.1))),
    )

pub returns-in-None : goal.returns-in-None
returns-in-None c = λ L st. (
  λ t. absurd (search (rules, t)),
  λ h. absurd (no_live c.args.self.now L st c.args.session (sym c.session_of.ensures ∙ c.in-None.is) h.0),
)
