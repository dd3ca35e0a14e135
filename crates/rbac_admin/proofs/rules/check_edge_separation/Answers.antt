use Rattle.std.proofs.Common.{refl}
use Rattle.rbac_admin.proofs.rules.check_edge_separation.Goals as goal

pub returns-in-Some : goal.returns-in-Some
returns-in-Some c = λ L by st is_senior is_junior.
    ((c.in-Some.violation.set, c.in-Some.violation.session), refl, c.in-Some.ensures L by st is_senior is_junior)
