use Rattle.std.proofs.Common.{◌≡◌, sym, ◌∙◌, subst}
use Rattle.std.specs.Prelude.{Some}
use Rattle.std.proofs.lemmas.Option.{same_Some}
use Rattle.refusal_rules.specs.Rules.{AllPass}
use Rattle.rbac_policy.specs.Facts.{Lives}
use Rattle.rbac_admin.specs.PolicyStep.{existence_rules, condition_rules}
use Rattle.rbac_admin.proofs.Answering.{tested}
use Rattle.rbac_admin.proofs.Authorizing.{all_authorized}
use Rattle.rbac_admin.proofs.Shaping.{all_roles}
use Rattle.rbac_admin.proofs.policy_step.check_separation.Goals as goal

pub returns-in-AddInheritance : goal.returns-in-AddInheritance
returns-in-AddInheritance c = λ L st given names conditions.
    let named = subst (λ k. AllPass (existence_rules L k)) c.in-AddInheritance.is names in
    rw c.in-AddInheritance.is
    (tested _ _ (c.check_edge_separation.ensures L c.args.entry.now.session st named.0 named.1.0))

pub returns-in-CreateDsdSet : goal.returns-in-CreateDsdSet
returns-in-CreateDsdSet c = λ L st given names conditions.
    let named = subst (λ k. AllPass (existence_rules L k)) c.in-CreateDsdSet.is names in
    rw c.in-CreateDsdSet.is
    (tested _ _
    (c.check_set_separation.ensures L c.args.entry.now.session st (all_roles c.args.policy.now L st _ named.1.0)))

pub returns-in-CreateSession : goal.returns-in-CreateSession
returns-in-CreateSession c = λ L st given names conditions.
    let named = subst (λ k. AllPass (existence_rules L k)) c.in-CreateSession.is names in
    let met = subst (λ k. AllPass (condition_rules L c.args.entry.now.session k)) c.in-CreateSession.is conditions in
    rw c.in-CreateSession.is
    (tested _ _ (c.check_login_separation.ensures L st named.0 (all_authorized c.args.policy.now L st _ _ met.0)))

pub returns-in-Some : goal.returns-in-Some
returns-in-Some c = λ L st given names conditions.
    let e = c.args.entry.now in
    let n = c.in-Some.session in
    let here : e.session ≡ Some n = (let is = c.in-Some.is in cc) in
    let met = subst (λ k. AllPass (condition_rules L e.session k)) c.in-AddActiveRole.is conditions in
    let lives = subst (λ k. Lives L k met.0.by.user) (same_Some met.0.number n (sym met.0.by.given ∙ here))
    met.0.by.lives in
    rw c.in-AddActiveRole.is
    (tested _ _ (rw here (c.check_role_separation.ensures L met.0.by.user st lives met.0.authorized)))
