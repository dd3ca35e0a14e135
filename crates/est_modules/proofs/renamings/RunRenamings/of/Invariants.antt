use Rattle.std.proofs.Common.{map, take}
use Rattle.est_syntax.specs.declared.tree.Renaming.{Renaming}
use Rattle.est_modules.specs.FirstPlaces.{AreFirstPlaces}
use Rattle.est_modules.proofs.renamings.RunRenamings.of.Given as goal

abbrev pub invariant-loop-index : goal.invariant-loop-index
invariant-loop-index l = AreFirstPlaces l.places (map (λ (r : Renaming). r.inner) (take l.index l.renamings))
