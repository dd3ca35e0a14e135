use Rattle.std.proofs.Common.{◌≡◌, Bor, drop}
use Rattle.std.specs.List.{position}
use Rattle.est_syntax.specs.Views.{relation_view}
use Rattle.est_syntax.specs.declared.tree.Relation.{Relation}
use Rattle.est_modules.specs.NameSets.{has}
use Rattle.est_checks.specs.Inner.Offers.{is_over_outputs}
use Rattle.est_checks.proofs.Looping.{place_from}
use Rattle.est_checks.proofs.lawless_relations.number_over_outputs.Given as goal

abbrev pub invariant-loop-place : goal.invariant-loop-place
invariant-loop-place l =
    let place = position (λ (r : Bor Relation). is_over_outputs (has l.offered) (relation_view r.now)) in
    place l.relations ≡ place_from l.place (place (drop l.place l.relations))
