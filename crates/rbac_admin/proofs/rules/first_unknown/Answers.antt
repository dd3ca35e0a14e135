use Rattle.std.proofs.Common.{◌≡◌, sym, ◌∙◌, subst, arith}
use Rattle.std.proofs.lemmas.Option.{same_Some}
use Rattle.rbac_policy.specs.Names.{NameText}
use Rattle.rbac_policy.specs.Facts.{IsRole}
use Rattle.rbac_admin.proofs.Answering.{not_so, is_so}
use Rattle.rbac_admin.proofs.Listing.{first_here, none_further, none_at_all}
use Rattle.rbac_admin.proofs.rules.first_unknown.Goals.{in-Some+else-not-has_role, in_default}
use Rattle.rbac_admin.proofs.rules.first_unknown.Goals as goal

pub returns-then-not-has_role : goal.returns-then-not-has_role
returns-then-not-has_role c = λ L st.
    first_here (λ before name. IsRole L name → ⊥) c.args.roles.now c.loop-place.place c.in-Some.role
    (c.loop-place.invariant L st) (sym c.get.ensures ∙ c.in-Some.is)
    (not_so (c.has_role.ensures L st) c.if-not-has_role.true)

pub loop-place-preserved : goal.loop-place-preserved
loop-place-preserved c = λ L st.
    none_further (λ before name. IsRole L name → ⊥) c.args.roles.now c.loop-place.place (c.loop-place.invariant L st)
    (λ name there no.
    elim c.match-get.branch [
      | in-Some+else-not-has_role w ↦
          (let same : w.in-Some.role ≡ name = same_Some w.in-Some.role name
          (sym w.in-Some.is ∙ c.get.ensures ∙ there) in
          let Known : NameText → Type 0 = λ name. IsRole L name in
          no (subst Known same (is_so (w.has_role.ensures L st) w.if-not-has_role.false)))
      | in_default w ↦ (let e = w.in_default.is in let g = c.get.ensures in cc)
    ])

pub returns : goal.returns
returns c = λ L st.
    none_at_all (λ before name. IsRole L name → ⊥) c.args.roles.now c.loop-place.place (omega arith)
    (c.loop-place.invariant L st)
