use Rattle.std.proofs.Common.{length, map}
use Rattle.est_syntax.specs.Views.{module_view}
use Rattle.est_syntax.specs.Inner.Modules.{AreModules}
use Rattle.est_syntax.proofs.modules.later_modules.Given as goal

abbrev pub invariant-modules : goal.invariant-modules
invariant-modules l = AreModules (map module_view l.modules.items) l.fn.cursor l.cursor

abbrev pub decreases-modules : goal.decreases-modules
decreases-modules l = length l.cursor
