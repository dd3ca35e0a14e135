use Rattle.std.proofs.Common.{rules, ◌≡◌, ◌≤◌, IsTrue, true, length, drop, refl, sym, subst}
use Rattle.std.specs.Prelude.{replicate}
use Rattle.est_text.specs.declared.identifier.TheConstants.{IDENTIFIER_BYTES}
use Rattle.est_text.specs.Identifiers.{is_identifier}
use Rattle.est_text.proofs.Filled.{front, filled, short_identifier}
use Rattle.est_text.proofs.identifier.Identifier.from_bytes.Goals as goal

pub invariant_of-result : goal.invariant_of-result
invariant_of-result c =
    let text = c.args.text.now in
    let is : is_identifier text ≡ true = search rules in
    let short : length text ≤ IDENTIFIER_BYTES = short_identifier text is in
    rw c.copy_from_slice.ensures.after (
      filled IDENTIFIER_BYTES text (length text) refl short,
      subst (λ s. IsTrue (is_identifier s))
          (sym (front text (drop (length text) (replicate IDENTIFIER_BYTES 0)) (length text) refl)) (search rules),
    )
