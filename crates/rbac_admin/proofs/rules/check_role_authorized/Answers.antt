use Rattle.std.proofs.Common.{refl, subst}
use Rattle.rbac_policy.specs.Facts.{IsAuthorized}
use Rattle.rbac_policy.proofs.OfReaders.ReadingRoles.{one_user}
use Rattle.rbac_admin.proofs.Answering.{not_so, is_so}
use Rattle.rbac_admin.proofs.rules.check_role_authorized.Goals as goal
use Rattle.rbac_admin.proofs.rules.check_role_authorized.Goals.{in_default-via-in-Some+else-is_authorized}
use Rattle.rbac_admin.proofs.rules.check_role_authorized.Goals.{in_default-via-in_default}

pub returns-in-Some : goal.returns-in-Some
returns-in-Some c = λ L user st lives.
    subst (λ u. IsAuthorized L u c.args.role.now)
    (one_user c.args.policy.now L st c.args.session c.in-Some.user user (c.in-Some.ensures L st) lives)
    (is_so (c.is_authorized.ensures L st) c.if-is_authorized.true)

pub returns-in_default : goal.returns-in_default
returns-in_default c = λ L user st lives. elim c.in_default.branch [
  | in_default-via-in-Some+else-is_authorized w ↦
      let same = one_user c.args.policy.now L st c.args.session user w.in-Some.user lives (w.in-Some.ensures L st) in (
        refl,
        λ a. not_so (w.is_authorized.ensures L st) w.if-is_authorized.false
            (subst (λ u. IsAuthorized L u c.args.role.now) same a),
      )
  | in_default-via-in_default w ↦ absurd (w.in_default.ensures L st (user, lives))
]
