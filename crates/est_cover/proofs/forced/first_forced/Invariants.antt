use Rattle.std.proofs.Common.{◌≡◌, take, true}
use Rattle.std.specs.List.{list_all}
use Rattle.est_kernel.specs.Bits.{bits}
use Rattle.est_relations.specs.Keeping.{keeps}
use Rattle.est_cover.proofs.forced.first_forced.Given as goal

abbrev pub invariant-loop-relation : goal.invariant-loop-relation
invariant-loop-relation l = list_all (keeps (bits l.part.inputs)) (take l.relation-index l.relations) ≡ true
