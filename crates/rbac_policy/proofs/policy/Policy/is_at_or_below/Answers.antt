use Rattle.std.proofs.Common.{rules, sym, ◌∙◌, subst}
use Rattle.std.proofs.lemmas.Slice.Eq.{bytes_eq-Decides}
use Rattle.rbac_policy.specs.Facts.{IsEdge}
use Rattle.rbac_closure.specs.Edges.{Chain, stay}
use Rattle.rbac_policy.proofs.Asking.{no_role}
use Rattle.rbac_policy.proofs.OfReaders.ReadingRoles.{role_is_there}
use Rattle.rbac_policy.proofs.OfReaders.ReadingOrder.{below_test, below_role, below_none}
use Rattle.rbac_policy.proofs.policy.Policy.is_at_or_below.Goals as goal

pub returns-in-Some-place_of : goal.returns-in-Some-place_of
returns-in-Some-place_of c = λ L st.
    below_test c.args.self.now L st c.args.junior.now c.args.senior.now c.in-Some.above c.in-Some-place_of.place
    c.below.result c.has.result
    (sym c.place_of.ensures.place ∙ c.in-Some.is) (sym c.place_of-in-Some.ensures.place ∙ c.in-Some-place_of.is)
    c.below.ensures c.has.ensures

pub returns-in-None-place_of : goal.returns-in-None-place_of
returns-in-None-place_of c = λ L st.
    let p = c.args.self.now in
    let exists = role_is_there p L st c.args.senior.now c.in-Some.above
    (sym c.place_of.ensures.place ∙ c.in-Some.is) in (
      λ t. absurd (search (rules, t)),
      λ h. absurd
          (no_role p L st c.args.junior.now (sym c.place_of-in-Some.ensures.place ∙ c.in-None-place_of.is)
          (below_role p L st c.args.junior.now c.args.senior.now exists h)),
    )

pub returns-in-None : goal.returns-in-None
returns-in-None c = λ L st.
    let same = bytes_eq-Decides c.args.senior.now c.args.junior.now in (
      λ t. subst (Chain (IsEdge L) c.args.senior.now) (same.0 (sym c.eq.ensures ∙ t)) stay,
      λ h. c.eq.ensures
          ∙ same.1
          (below_none c.args.self.now L st c.args.junior.now c.args.senior.now
          (sym c.place_of.ensures.place ∙ c.in-None.is) h),
    )
