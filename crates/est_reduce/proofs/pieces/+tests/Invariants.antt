use Rattle.std.proofs.Common.{◌≡◌, map, take}
use Rattle.est_kernel.specs.View.{query_of}
use Rattle.est_reduce.specs.Views.{bound_query}
use Rattle.est_reduce.proofs.pieces.+tests.Given as goal

abbrev pub invariant-joined-loop-bound : goal.invariant-joined-loop-bound
invariant-joined-loop-bound l = map query_of l.later.items ≡ map bound_query (take l.bound-index l.bound-items)

abbrev pub decreases-joined : goal.decreases-joined
decreases-joined l = goal.size-joined l

abbrev pub decreases-test : goal.decreases-test
decreases-test l = goal.size-test l
