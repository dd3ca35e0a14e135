use Rattle.std.proofs.Common.{◌≡◌, take, map}
use Rattle.est_syntax.specs.Views.{declaration_view, relation_view}
use Rattle.est_modules.specs.Modules.{relations_of}
use Rattle.est_modules.proofs.relations.relations_of.Given as goal

abbrev pub invariant-loop-declaration : goal.invariant-loop-declaration
invariant-loop-declaration l = map (λ r. relation_view r.now) l.relations.items
    ≡ relations_of (map declaration_view (take l.declaration-index l.declarations))
