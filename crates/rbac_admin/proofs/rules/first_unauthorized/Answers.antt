use Rattle.std.proofs.Common.{◌≡◌, sym, ◌∙◌, subst, arith}
use Rattle.std.proofs.lemmas.Option.{same_Some}
use Rattle.rbac_policy.specs.Names.{NameText}
use Rattle.rbac_policy.specs.Facts.{IsAuthorized}
use Rattle.rbac_admin.proofs.Answering.{not_so, is_so}
use Rattle.rbac_admin.proofs.Listing.{first_here, none_further, none_at_all}
use Rattle.rbac_admin.proofs.rules.first_unauthorized.Goals.{in-Some+else-not-is_authorized, in_default}
use Rattle.rbac_admin.proofs.rules.first_unauthorized.Goals as goal

pub returns-then-not-is_authorized : goal.returns-then-not-is_authorized
returns-then-not-is_authorized c = λ L st.
    first_here (λ before name. IsAuthorized L c.args.user.now name → ⊥) c.args.roles.now c.loop-place.place
    c.in-Some.role
    (c.loop-place.invariant L st) (sym c.get.ensures ∙ c.in-Some.is)
    (not_so (c.is_authorized.ensures L st) c.if-not-is_authorized.true)

pub loop-place-preserved : goal.loop-place-preserved
loop-place-preserved c = λ L st.
    none_further (λ before name. IsAuthorized L c.args.user.now name → ⊥) c.args.roles.now c.loop-place.place
    (c.loop-place.invariant L st) (λ name there no.
    elim c.match-get.branch [
      | in-Some+else-not-is_authorized w ↦
          (let same : w.in-Some.role ≡ name = same_Some w.in-Some.role name
          (sym w.in-Some.is ∙ c.get.ensures ∙ there) in
          let Known : NameText → Type 0 = λ name. IsAuthorized L c.args.user.now name in
          no (subst Known same (is_so (w.is_authorized.ensures L st) w.if-not-is_authorized.false)))
      | in_default w ↦ (let e = w.in_default.is in let g = c.get.ensures in cc)
    ])

pub returns : goal.returns
returns c = λ L st.
    none_at_all (λ before name. IsAuthorized L c.args.user.now name → ⊥) c.args.roles.now c.loop-place.place
    (omega arith) (c.loop-place.invariant L st)
