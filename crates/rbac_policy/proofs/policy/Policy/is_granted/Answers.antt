use Rattle.std.proofs.Common.{rules, ◌∙◌, sym, refl}
use Rattle.rbac_policy.proofs.Asking.{granted_slot, no_role, not_granted_pair}
use Rattle.rbac_policy.proofs.OfReaders.Reading.{granted_test}
use Rattle.rbac_policy.proofs.policy.Policy.is_granted.Goals as goal

pub returns-in-Some-place_of : goal.returns-in-Some-place_of
returns-in-Some-place_of c = λ L st.
    granted_test c.args.self.now L st c.args.role.now c.args.operation.now c.args.object.now c.in-Some.grant
    c.in-Some-place_of.place c.has.result
    (sym c.grant_of.ensures ∙ c.in-Some.is) (sym c.place_of.ensures.place ∙ c.in-Some-place_of.is) c.has.ensures

pub returns-in-None-place_of : goal.returns-in-None-place_of
returns-in-None-place_of c = λ L st.
    let p = c.args.self.now in
    let r = c.args.role.now in
    let slot = granted_slot p L st r c.args.operation.now c.args.object.now c.in-Some.grant
    (sym c.grant_of.ensures ∙ c.in-Some.is) in (
      λ t. absurd (search (rules, t)),
      λ h. let m = slot.0 h in
          absurd (no_role p L st r (sym c.place_of.ensures.place ∙ c.in-None-place_of.is)
          ((st.roles.exist r).1 (record { at = m.place; value = r; there = m.there; fact = refl }))),
    )

pub returns-in-None : goal.returns-in-None
returns-in-None c = λ L st. (
  λ t. absurd (search (rules, t)),
  λ h. absurd
      (not_granted_pair c.args.self.now L st c.args.role.now c.args.operation.now c.args.object.now
      (sym c.grant_of.ensures ∙ c.in-None.is) h),
)
