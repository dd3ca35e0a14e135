use Rattle.std.proofs.Common.{refl}
use Rattle.rbac_admin.proofs.rules.check_login_separation.Goals as goal

pub returns-in-Some : goal.returns-in-Some
returns-in-Some c = λ L st numbers authorized.
    ((c.in-Some.violation.set, c.in-Some.violation.session), refl, c.in-Some.ensures L st numbers authorized)
