use Rattle.std.proofs.Common.{◌++◌, ◌∷◌, [], ◌∙◌, ℕ, ap}
use Rattle.std.specs.Prelude.{Some}
use Rattle.rbac_policy.specs.declared.rows.Session.{Session}
use Rattle.rbac_policy.specs.Inner.Violations.{first_violation}
use Rattle.rbac_policy.proofs.OfSeparation.LoggingIn.{login_violation}
use Rattle.rbac_policy.proofs.policy.Policy.first_violated_by_login.Goals as goal

pub returns : goal.returns
returns c = λ L st numbers authorized.
    let p = c.args.self.now in
    let row = λ (n m : ℕ). let z : Session = record { number = n; user = c.args.user.now; active = m } in z in
    let shown = λ (n m : ℕ). first_violation p.juniors (p.sessions ++ Some (row n m) ∷ []) p.sets in
    login_violation p L st c.args.user.now c.args.roles.now numbers authorized c.first_violation.result
    (c.first_violation.ensures ∙ ap (λ n. shown n c.mask_of.result) c.new.ensures ∙ ap (shown _) c.mask_of.ensures)
