use Rattle.std.proofs.Common.{◌≡◌, map, take}
use Rattle.est_kernel.specs.Term.{Name}
use Rattle.est_link.specs.Linking.{Meant}
use Rattle.est_link.specs.Inner.OpenBodies.{AreUsed, MeanThemselves}
use Rattle.est_link.proofs.Meanings.{test_meant}
use Rattle.est_link.proofs.used_signals.UsedSignals.+tests.Given as goal
use Rattle.est_reduce.specs.Views.{bound_query}

abbrev pub invariant-add_tests-loop-test : goal.invariant-add_tests-loop-test
invariant-add_tests-loop-test l =
    record {
      own : AreUsed l.fn.self → AreUsed l.self;
      fewer : (g : Name → Meant) → MeanThemselves l.self g → MeanThemselves l.fn.self g;
      kept : (g : Name → Meant) → MeanThemselves l.self g
          → map (test_meant g) (take l.test-index l.tests) ≡ map bound_query (take l.test-index l.tests);
    }
