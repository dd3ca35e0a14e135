use Rattle.std.proofs.Common.{map, take}
use Rattle.est_modules.specs.Modules.{program_of}
use Rattle.est_checks.specs.Inner.Numbers.{IsFilled}
use Rattle.est_checks.proofs.statement_count.count_modules.Given as goal

abbrev pub invariant-loop-place : goal.invariant-loop-place
invariant-loop-place l = IsFilled (map program_of l.modules) (take l.place-index l.order) l.numbers.items
