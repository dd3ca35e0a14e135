use Rattle.std.proofs.Common.{◌++◌, ◌∷◌, [], ◌∙◌, ℕ, ap, sym}
use Rattle.std.specs.Prelude.{Some}
use Rattle.rbac_policy.specs.declared.rows.Session.{Session}
use Rattle.rbac_policy.specs.Inner.Violations.{first_violation}
use Rattle.rbac_policy.proofs.Asking.{no_role}
use Rattle.rbac_policy.proofs.OfReaders.ReadingRoles.{no_live}
use Rattle.rbac_policy.proofs.OfSeparation.ActivatingRole.{after_role}
use Rattle.rbac_policy.proofs.policy.Policy.first_violated_by_role.Goals as goal

pub returns-in-Some-place_of : goal.returns-in-Some-place_of
returns-in-Some-place_of c = λ L user st lives authorized.
    let p = c.args.self.now in
    let row = λ (m : ℕ). let z : Session =
    record { number = c.in-Some.found.number; user = c.in-Some.found.user; active = m } in z in
    after_role p L st c.args.session c.args.role.now user lives authorized
    c.in-Some.found (sym c.session_of.ensures ∙ c.in-Some.is)
    c.in-Some-place_of.place (sym c.place_of.ensures.place ∙ c.in-Some-place_of.is)
    c.first_violation.result
    (c.first_violation.ensures ∙ ap (λ m. first_violation p.juniors (p.sessions ++ Some (row m) ∷ []) p.sets)
    c.with.ensures)

pub returns-in-None-place_of : goal.returns-in-None-place_of
returns-in-None-place_of c = λ L user st lives authorized.
    absurd (no_role c.args.self.now L st c.args.role.now (sym c.place_of.ensures.place ∙ c.in-None-place_of.is)
    authorized.exists)

pub returns-in-None : goal.returns-in-None
returns-in-None c = λ L user st lives authorized. absurd
    (no_live c.args.self.now L st c.args.session (sym c.session_of.ensures ∙ c.in-None.is) (user, lives))
