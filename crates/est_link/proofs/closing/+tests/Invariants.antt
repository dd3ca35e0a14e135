use Rattle.std.proofs.Common.{◌≡◌, map, take}
use Rattle.est_reduce.specs.Views.{bound_query as query_view}
use Rattle.est_link.specs.Inner.OpenBodies.{meant_by}
use Rattle.est_link.proofs.Meanings.{test_meant}
use Rattle.est_link.proofs.closing.+tests.Given as goal

abbrev pub invariant-close_joined-loop-test : goal.invariant-close_joined-loop-test
invariant-close_joined-loop-test l =
    map query_view l.later.items ≡ map (test_meant (meant_by l.at.meanings.now)) (take l.test-index l.test-items)
