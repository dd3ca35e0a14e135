use Rattle.std.proofs.Common.{◌≡◌, sym, ◌∙◌, subst, arith}
use Rattle.std.specs.Prelude.{Contains, take}
use Rattle.std.proofs.lemmas.Option.{same_Some}
use Rattle.rbac_admin.proofs.Answering.{not_so, is_so}
use Rattle.rbac_admin.proofs.Listing.{first_here, none_further, none_at_all}
use Rattle.rbac_admin.proofs.rules.first_repeated.Goals.{in-Some+else-is_listed_before, in_default}
use Rattle.rbac_admin.proofs.rules.first_repeated.Goals as goal

pub returns-then-is_listed_before : goal.returns-then-is_listed_before
returns-then-is_listed_before c =
    first_here Contains c.args.roles.now c.loop-place.place c.in-Some.role
    c.loop-place.invariant (sym c.get.ensures ∙ c.in-Some.is)
    (is_so c.is_listed_before.ensures c.if-is_listed_before.true)

pub loop-place-preserved : goal.loop-place-preserved
loop-place-preserved c =
    none_further Contains c.args.roles.now c.loop-place.place c.loop-place.invariant (λ name there again.
    elim c.match-get.branch [
      | in-Some+else-is_listed_before w ↦
          (let same : name ≡ w.in-Some.role = same_Some name w.in-Some.role
          (sym there ∙ sym c.get.ensures ∙ w.in-Some.is) in
          not_so w.is_listed_before.ensures w.if-is_listed_before.false
          (subst (Contains (take c.loop-place.place c.args.roles.now)) same again))
      | in_default w ↦ (let e = w.in_default.is in let g = c.get.ensures in cc)
    ])

pub returns : goal.returns
returns c = none_at_all Contains c.args.roles.now c.loop-place.place (omega arith) c.loop-place.invariant
