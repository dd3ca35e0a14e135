use Rattle.std.proofs.Common.{◌++◌, ◌∷◌, [], ◌∙◌, ℕ, ap, subst}
use Rattle.std.specs.Prelude.{Some, None}
use Rattle.rbac_policy.specs.declared.rows.DsdSet.{DsdSet}
use Rattle.rbac_policy.specs.Tables.{At}
use Rattle.rbac_policy.specs.Inner.Violations.{first_violation}
use Rattle.rbac_policy.proofs.OfSeparation.Prospects.{after_set}
use Rattle.rbac_policy.proofs.policy.Policy.first_violated_by_set.Goals as goal

pub returns : goal.returns
returns c = λ L by st are_roles.
    let p = c.args.self.now in
    let row = λ (m : ℕ). let z : DsdSet =
    record { name = c.args.set.now; count = c.args.count; roles = m; place = p.version } in z in
    after_set p L st by c.args.set.now c.args.count c.args.roles.now
    (λ r listed. let h = (st.roles.exist r).0 (are_roles r listed) in (h.at, subst (At p.roles h.at) h.fact h.there))
    c.first_violation_with.result
    (c.first_violation_with.ensures
    ∙ ap (λ m. first_violation p.juniors (p.sessions ++ None ∷ []) (p.sets ++ Some (row m) ∷ [])) c.mask_of.ensures)
