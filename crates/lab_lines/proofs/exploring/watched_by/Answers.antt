use Rattle.std.proofs.Common.{List, subst}
use Rattle.std.specs.List.{All}
use Rattle.std.proofs.lemmas.List.{take_all}
use Rattle.est_kernel.specs.Bits.{bits}
use Rattle.est_explore.specs.Claims.{IsToldBy}
use Rattle.lab_lines.specs.Tests.{test_of}
use Rattle.lab_lines.specs.declared.asked_test.AskedTest.{AskedTest}
use Rattle.lab_lines.proofs.WatchLemmas.{watched_next}
use Rattle.lab_lines.proofs.exploring.watched_by.Goals as goal

pub loop-test-preserved : goal.loop-test-preserved
loop-test-preserved c =
    watched_next c.args.tests.now c.loop-test.test-index c.test-item.result c.loop-test.signals c.signals_of.result
    c.union-signals.result c.loop-test-test.true c.test-item.is c.union-signals.ensures c.loop-test.invariant
    (rw c.test.ensures at c.signals_of.ensures)

pub returns : goal.returns
returns c = subst (λ (ts : List AskedTest). All (λ t. IsToldBy (test_of t) (bits c.loop-test.signals)) ts)
    (take_all c.loop-test.test-index c.args.tests.now c.loop-test-test.false) c.loop-test.invariant
