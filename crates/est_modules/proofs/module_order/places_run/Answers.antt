use Rattle.std.proofs.Common.{[], ◌∙◌, ◌++◌, ℕ, List, ap, map}
use Rattle.std.specs.List.{flat_map}
use Rattle.est_modules.specs.Modules.{program_of}
use Rattle.est_modules.specs.Occurrences.{Occurrence, occurrences}
use Rattle.est_modules.specs.ModuleOrders.{place_run}
use Rattle.est_modules.proofs.Ordering.{gathered}
use Rattle.est_modules.proofs.module_order.places_run.Goals as goal

pub returns : goal.returns
returns c =
    let ps = map program_of c.args.modules.now in
    c.in_ok-walk_body.ensures ∙ gathered (λ (o : Occurrence). place_run ps o.act) _
    (occurrences [] (program_of c.args.home.now).body) ∙ ap
    (λ (xs : List ℕ). xs ++ flat_map (λ (o : Occurrence). place_run ps o.act)
    (occurrences [] (program_of c.args.home.now).body)) c.new-places.ensures.items
