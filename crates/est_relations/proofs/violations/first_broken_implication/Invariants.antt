use Rattle.std.proofs.Common.{◌≡◌, take, true}
use Rattle.std.specs.List.{list_all}
use Rattle.est_kernel.specs.Bits.{bits}
use Rattle.est_relations.specs.Keeping.{keeps}
use Rattle.est_relations.proofs.violations.first_broken_implication.Given as goal

abbrev pub invariant-loop-index : goal.invariant-loop-index
invariant-loop-index l = list_all (keeps (bits l.inputs)) (take l.index l.relations) ≡ true
