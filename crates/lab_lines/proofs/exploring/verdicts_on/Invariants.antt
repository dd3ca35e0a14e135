use Rattle.std.proofs.Common.{take, map}
use Rattle.serde_json.specs.View.{view}
use Rattle.est_explore.specs.Views.{module_of}
use Rattle.lab_lines.specs.Exploring.{AreTold}
use Rattle.lab_lines.specs.Tests.{test_of}
use Rattle.lab_lines.proofs.exploring.verdicts_on.Given as goal

abbrev pub invariant-loop-test : goal.invariant-loop-test
invariant-loop-test g l =
    AreTold (module_of l.subject.reactive.now.kernel.now l.subject.relations.now l.subject.allowed)
    l.fn.limits.states l.fn.limits.steps (map test_of (take l.test-index l.tests)) (map view l.verdicts.items)
