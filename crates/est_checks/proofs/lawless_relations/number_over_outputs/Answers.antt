use Rattle.std.proofs.Common.{Bor, ℕ, ◌+◌, true, false, option_map, ap, sym, ◌∙◌}
use Rattle.std.proofs.lemmas.List.{at_drop_all}
use Rattle.std.specs.List.{position}
use Rattle.est_syntax.specs.Views.{relation_view}
use Rattle.est_syntax.specs.declared.tree.Relation.{Relation}
use Rattle.est_modules.specs.NameSets.{has}
use Rattle.est_checks.specs.Inner.Offers.{is_over_outputs}
use Rattle.est_checks.proofs.Looping.{place_from, place_in_all, place_next}
use Rattle.est_checks.proofs.lawless_relations.number_over_outputs.Goals as goal

pub loop-place-init : goal.loop-place-init
loop-place-init c =
    let test = λ (r : Bor Relation). is_over_outputs (has c.args.offered.now) (relation_view r.now) in
    sym (place_in_all (position test c.args.relations.now))

pub returns-then-is_over_outputs : goal.returns-then-is_over_outputs
returns-then-is_over_outputs c =
    let test = λ (r : Bor Relation). is_over_outputs (has c.args.offered.now) (relation_view r.now) in
    sym (ap (option_map (λ (k : ℕ). k + 1)) (c.loop-place.invariant
    ∙ place_next test c.args.relations.now c.loop-place.place c.index-relations-place.result c.loop-place-test.true
    c.index-relations-place.is true (sym c.is_over_outputs.ensures ∙ c.if-is_over_outputs.true)))

pub loop-place-preserved : goal.loop-place-preserved
loop-place-preserved c =
    let test = λ (r : Bor Relation). is_over_outputs (has c.args.offered.now) (relation_view r.now) in
    c.loop-place.invariant
    ∙ place_next test c.args.relations.now c.loop-place.place c.index-relations-place.result c.loop-place-test.true
    c.index-relations-place.is false (sym c.is_over_outputs.ensures ∙ c.if-is_over_outputs.false)

pub returns : goal.returns
returns c =
    let test = λ (r : Bor Relation). is_over_outputs (has c.args.offered.now) (relation_view r.now) in
    sym (ap (option_map (λ (k : ℕ). k + 1)) (c.loop-place.invariant
    ∙ ap (place_from c.loop-place.place)
    (at_drop_all (position test) c.args.relations.now c.loop-place.place c.loop-place-test.false)))
