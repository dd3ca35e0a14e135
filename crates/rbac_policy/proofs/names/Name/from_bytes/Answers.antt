use Rattle.std.proofs.Common.{rules, ◌≡◌, ◌≤◌, IsTrue, true, length, drop, refl, sym, subst}
use Rattle.std.specs.Prelude.{replicate}
use Rattle.rbac_policy.specs.Names.{is_name}
use Rattle.est_text.proofs.Filled.{front, filled}
use Rattle.rbac_policy.proofs.OfNames.Filled.{short_name}
use Rattle.rbac_policy.specs.declared.names.TheConstants.{NAME_BYTES}
use Rattle.rbac_policy.proofs.names.Name.from_bytes.Goals as goal

pub invariant_of-result : goal.invariant_of-result
invariant_of-result c =
    let text = c.args.text.now in
    let is : is_name text ≡ true = search rules in
    let short : length text ≤ NAME_BYTES = short_name text is in
    rw c.copy_from_slice.ensures.after (
      filled NAME_BYTES text (length text) refl short,
      subst (λ s. IsTrue (is_name s))
          (sym (front text (drop (length text) (replicate NAME_BYTES 0)) (length text) refl)) (search rules),
    )
