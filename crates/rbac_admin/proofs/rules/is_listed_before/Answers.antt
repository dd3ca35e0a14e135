use Rattle.std.proofs.Common.{◌≡◌, sym, ◌∙◌, ap, rules, arith}
use Rattle.std.specs.Prelude.{Some}
use Rattle.std.proofs.lemmas.Slice.Eq.{bytes_eq-Decides}
use Rattle.rbac_admin.proofs.Listing.{taken, was_taken}
use Rattle.rbac_admin.proofs.rules.is_listed_before.Goals as goal

pub returns-then-eq : goal.returns-then-eq
returns-then-eq c =
    let same : c.in-Some.name ≡ c.args.role.now = (bytes_eq-Decides c.in-Some.name c.args.role.now).0
    (sym c.eq.ensures ∙ c.if-eq.true) in (
      λ t. taken c.args.roles.now c.args.place c.loop-earlier.earlier c.args.role.now (omega arith)
          (sym c.get.ensures ∙ c.in-Some.is ∙ ap Some same),
      λ h. search rules,
    )

pub returns : goal.returns
returns c = (
  λ t. absurd (search (rules, t)),
  λ h.
      let k = was_taken c.args.roles.now c.args.place c.args.role.now h in
      absurd (c.loop-earlier.invariant k.0 (omega (arith, k.1)) k.2),
)
