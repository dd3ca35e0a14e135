use Rattle.std.proofs.Common.{◌≡◌, take, true}
use Rattle.std.specs.List.{list_all}
use Rattle.est_kernel.specs.Bits.{bits}
use Rattle.est_relations.specs.Keeping.{keeps_exclusion}
use Rattle.est_relations.specs.Offers.{with_place}
use Rattle.est_relations.proofs.violations.first_broken_exclusion.Given as goal

abbrev pub invariant-loop-index : goal.invariant-loop-index
invariant-loop-index l = list_all (keeps_exclusion (bits (with_place l.inputs l.signal.index)))
    (take l.index l.relations) ≡ true
