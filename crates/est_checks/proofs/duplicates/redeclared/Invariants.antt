use Rattle.std.proofs.Common.{◌≡◌, ℕ, List, [], take, drop}
use Rattle.est_checks.specs.Duplicates.{redeclared}
use Rattle.est_modules.specs.Visible.{stands_in}
use Rattle.est_modules.specs.NameSets.{has}
use Rattle.est_checks.proofs.duplicates.redeclared.Given as goal

abbrev pub invariant-loop-name : goal.invariant-loop-name
invariant-loop-name l = (redeclared [] l.names ≡ redeclared (take l.name-index l.names) (drop l.name-index l.names))
    × ((s : List ℕ) → has l.seen s ≡ stands_in (take l.name-index l.names) s)
