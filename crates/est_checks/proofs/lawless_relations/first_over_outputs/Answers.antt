use Rattle.std.proofs.Common.{◌∙◌, ◌+◌, Bor, List, ℕ, ap, option_map}
use Rattle.std.specs.List.{position}
use Rattle.est_syntax.specs.Views.{relation_view}
use Rattle.est_syntax.specs.declared.tree.Relation.{Relation}
use Rattle.est_modules.specs.NameSets.{has}
use Rattle.est_modules.specs.Modules.{program_of}
use Rattle.est_modules.specs.declared.interface.Declared.{Declared}
use Rattle.est_checks.specs.Inner.Offers.{is_over_outputs}
use Rattle.est_checks.specs.LawlessRelations.{is_lawless}
use Rattle.est_checks.proofs.Listing.{lawless_listed}
use Rattle.est_checks.proofs.lawless_relations.first_over_outputs.Goals as goal

pub returns : goal.returns
returns c =
    let offered = has c.in_ok-offered.offered in
    c.number_over_outputs.ensures
    ∙ ap (λ (rs : List (Bor Relation)). option_map (λ (i : ℕ). i + 1)
    (position (λ (r : Bor Relation). is_over_outputs offered (relation_view r.now)) rs)) c.deref.ensures.value
    ∙ ap (option_map (λ (i : ℕ). i + 1))
    (lawless_listed offered _ c.in_ok-relations.relations.items c.in_ok-offered.ensures c.in_ok-relations.ensures)
    ∙ ap (λ (ds : List Declared). option_map (λ (i : ℕ). i + 1)
    (position (is_lawless ds) (program_of c.args.home.now).relations))
    c.signals.ensures
