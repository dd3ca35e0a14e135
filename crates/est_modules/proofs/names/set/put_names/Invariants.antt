use Rattle.std.proofs.Common.{take}
use Rattle.est_modules.specs.NamedNumbers.{Adds}
use Rattle.est_modules.specs.Visible.{stands_in}
use Rattle.est_modules.proofs.names.set.put_names.Given as goal

abbrev pub invariant-loop-name : goal.invariant-loop-name
invariant-loop-name l = Adds l.table (stands_in (take l.name-index l.names)) l.fn.numbers l.numbers
