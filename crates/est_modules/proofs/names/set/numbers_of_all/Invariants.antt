use Rattle.std.proofs.Common.{take}
use Rattle.est_modules.specs.NamedNumbers.{AreNumbers}
use Rattle.est_modules.proofs.names.set.numbers_of_all.Given as goal

abbrev pub invariant-loop-name : goal.invariant-loop-name
invariant-loop-name l = AreNumbers l.table (take l.name-index l.names) l.numbers
