use Rattle.std.proofs.Common.{ℕ, List, true, false, not, ap, sym, ◌∙◌}
use Rattle.std.proofs.lemmas.List.{at_drop_all}
use Rattle.std.specs.List.{list_any}
use Rattle.est_modules.specs.NameSets.{has}
use Rattle.est_checks.proofs.Looping.{any_from}
use Rattle.est_checks.proofs.lawless_relations.are_over_outputs.Goals as goal

pub returns-then-not-contains : goal.returns-then-not-contains
returns-then-not-contains c =
    sym (c.loop-name.invariant
    ∙ any_from (λ (n : List ℕ). not (has c.args.offered.now n)) c.args.names.now c.loop-name.name-index
    c.name-item.result c.loop-name-test.true c.name-item.is true
    (ap not (sym c.contains.ensures ∙ c.if-not-contains.true)))

pub loop-name-preserved : goal.loop-name-preserved
loop-name-preserved c =
    c.loop-name.invariant
    ∙ any_from (λ (n : List ℕ). not (has c.args.offered.now n)) c.args.names.now c.loop-name.name-index
    c.name-item.result c.loop-name-test.true c.name-item.is false
    (ap not (sym c.contains.ensures ∙ c.if-not-contains.false))

pub returns : goal.returns
returns c =
    sym (c.loop-name.invariant ∙ at_drop_all (list_any (λ (n : List ℕ). not (has c.args.offered.now n)))
    c.args.names.now c.loop-name.name-index c.loop-name-test.false)
