use Rattle.std.proofs.Common.{refl, inl, inr}
use Rattle.std.proofs.lemmas.Result.{err_from_is_err_and}
use Rattle.refusal_rules.proofs.RuleLemmas.{refuse, pass}
use Rattle.rbac_admin.specs.PolicyStep.{unknown_role}
use Rattle.rbac_admin.proofs.Answering.{tested}
use Rattle.rbac_admin.proofs.policy_step.check_existence.Goals as goal

pub returns-in_err-check_role_exists-in-AddInheritance : goal.returns-in_err-check_role_exists-in-AddInheritance
returns-in_err-check_role_exists-in-AddInheritance c =
    let p = err_from_is_err_and c.from_residual-in_err-check_role_exists-in-AddInheritance.result
    c.from_residual-in_err-check_role_exists-in-AddInheritance.ensures.1 in
    rw (p.1, p.2) (λ L st. let refused = c.in_err-check_role_exists-in-AddInheritance.ensures L st in
    elim c.in-AddInheritance.is [ inl is ↦ rw is (refuse _ refused refl) | inr is ↦ rw is (refuse _ refused refl) ])

pub returns-in_ok-check_set_is_new-in-CreateDsdSet : goal.returns-in_ok-check_set_is_new-in-CreateDsdSet
returns-in_ok-check_set_is_new-in-CreateDsdSet c = λ L st. rw c.in-CreateDsdSet.is
    (pass (c.in_ok-check_set_is_new-in-CreateDsdSet.ensures L st) (tested _ _ (c.check_roles_exist.ensures L st)))

pub returns-in_ok-check_user_exists-in-CreateSession : goal.returns-in_ok-check_user_exists-in-CreateSession
returns-in_ok-check_user_exists-in-CreateSession c = λ L st. rw c.in-CreateSession.is
    (pass (c.in_ok-check_number_left-in-CreateSession.ensures L st)
    (pass (c.in_ok-check_user_exists-in-CreateSession.ensures L st)
    (tested _ _ (c.check_roles_exist-in-CreateSession.ensures L st))))

pub returns-in-DeleteRole : goal.returns-in-DeleteRole
returns-in-DeleteRole c = λ L st.
    let h = tested (unknown_role L c.in-DeleteRole.role) _ (c.check_role_exists-in-DeleteRole.ensures L st) in
    elim c.in-DeleteRole.is [
      | inl is ↦ rw is h
      | inr other ↦ elim other [
        | inl granted ↦ rw granted.2 h
        | inr other ↦ elim other [
          | inl revoked ↦ rw revoked.2 h
          | inr other ↦ elim other [ inl is ↦ rw is h | inr is ↦ rw is h ]
        ]
      ]
    ]
