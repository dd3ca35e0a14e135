use Rattle.std.proofs.Common.{◌≡◌, ◌++◌, ◌∷◌, take, map}
use Rattle.est_syntax.specs.Views.{relation_view}
use Rattle.est_modules.proofs.relations.add_listed.Given as goal

abbrev pub invariant-loop-relation : goal.invariant-loop-relation
invariant-loop-relation l = map (λ r. relation_view r.now) l.relations.items
    ≡ map (λ r. relation_view r.now) l.fn.relations.items ++ relation_view l.first
    ∷ map relation_view (take l.relation-index l.later)
