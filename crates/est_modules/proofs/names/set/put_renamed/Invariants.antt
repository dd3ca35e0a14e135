use Rattle.std.proofs.Common.{map, take}
use Rattle.est_syntax.specs.Views.{renaming_view}
use Rattle.est_modules.specs.NamedNumbers.{Adds}
use Rattle.est_modules.specs.Renamings.{is_renamed}
use Rattle.est_modules.proofs.names.set.put_renamed.Given as goal

abbrev pub invariant-loop-renaming : goal.invariant-loop-renaming
invariant-loop-renaming l =
    Adds l.table (is_renamed (map renaming_view (take l.renaming-index l.renamings))) l.fn.numbers l.numbers
