use Rattle.std.proofs.Common.{◌≡◌, refl, sym, subst}
use Rattle.std.specs.Prelude.{Some, IsFalse}
use Rattle.std.proofs.lemmas.Result.{err_from_is_err_and}
use Rattle.rbac_policy.specs.Entries.{makes_session}
use Rattle.refusal_rules.proofs.RuleLemmas.{refuse, pass}
use Rattle.rbac_admin.proofs.Answering.{tested, tested_inactive, given_by, pass_authorized, refuse_authorized}
use Rattle.rbac_admin.proofs.policy_step.check_conditions.Goals as goal

pub returns-in_err-check_roles_authorized-in-CreateSession :
    goal.returns-in_err-check_roles_authorized-in-CreateSession
returns-in_err-check_roles_authorized-in-CreateSession c =
    let p = err_from_is_err_and c.from_residual-in_err-check_roles_authorized-in-CreateSession.result
    c.from_residual-in_err-check_roles_authorized-in-CreateSession.ensures.1 in
    rw (p.1, p.2)
    (λ L st given. rw c.in-CreateSession.is
    (refuse _ (c.in_err-check_roles_authorized-in-CreateSession.ensures L st) refl))

pub returns-in_ok-check_roles_authorized-in-CreateSession :
    goal.returns-in_ok-check_roles_authorized-in-CreateSession
returns-in_ok-check_roles_authorized-in-CreateSession c = λ L st given. rw c.in-CreateSession.is
    (pass (c.in_ok-check_roles_authorized-in-CreateSession.ensures L st) (tested _ _ c.check_roles_differ.ensures))

pub returns-in_err-check_role_authorized-in-AddActiveRole :
    goal.returns-in_err-check_role_authorized-in-AddActiveRole
returns-in_err-check_role_authorized-in-AddActiveRole c =
    let p = err_from_is_err_and c.from_residual-in_err-check_role_authorized-in-AddActiveRole.result
    c.from_residual-in_err-check_role_authorized-in-AddActiveRole.ensures.1 in
    let e = c.args.entry.now in
    let n = c.in_ok-session-in-AddActiveRole.session in
    let here : e.session ≡ Some n = (let is = c.in_ok-session-in-AddActiveRole.ensures.value in cc) in
    let plain : IsFalse (makes_session e.command) = subst (λ k. IsFalse (makes_session k))
    (sym c.in-AddActiveRole.is) refl in
    rw (p.1, p.2) (λ L st given. let by = given_by L e n plain here given in rw c.in-AddActiveRole.is
    (refuse_authorized L e.session n by _ _
    (λ user lives. c.in_err-check_role_authorized-in-AddActiveRole.ensures L user st lives) refl))

pub returns-in_ok-check_role_authorized-in-AddActiveRole :
    goal.returns-in_ok-check_role_authorized-in-AddActiveRole
returns-in_ok-check_role_authorized-in-AddActiveRole c =
    let e = c.args.entry.now in
    let n = c.in_ok-session-in-AddActiveRole.session in
    let here : e.session ≡ Some n = (let is = c.in_ok-session-in-AddActiveRole.ensures.value in cc) in
    let plain : IsFalse (makes_session e.command) = subst (λ k. IsFalse (makes_session k))
    (sym c.in-AddActiveRole.is) refl in
    λ L st given. let by = given_by L e n plain here given in rw c.in-AddActiveRole.is
    (pass_authorized L e.session n by _ (c.in_ok-check_role_authorized-in-AddActiveRole.ensures L by.user st by.lives)
    (tested_inactive L e.session n by _ _ (c.check_role_inactive.ensures L st (by.user, by.lives))))

pub returns-in-DeleteInheritance : goal.returns-in-DeleteInheritance
returns-in-DeleteInheritance c = λ L st given. rw c.in-DeleteInheritance.is
    (tested _ _ (c.check_edge_exists.ensures L st))

pub returns-in-CreateDsdSet : goal.returns-in-CreateDsdSet
returns-in-CreateDsdSet c = λ L st given. rw c.in-CreateDsdSet.is (tested _ _ c.check_dsd_shape.ensures)
