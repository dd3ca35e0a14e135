use Rattle.std.proofs.Common.{take}
use Rattle.std.specs.List.{All}
use Rattle.est_kernel.specs.Bits.{bits}
use Rattle.est_explore.specs.Claims.{IsToldBy}
use Rattle.lab_lines.specs.Tests.{test_of}
use Rattle.lab_lines.proofs.exploring.watched_by.Given as goal

abbrev pub invariant-loop-test : goal.invariant-loop-test
invariant-loop-test l = All (λ t. IsToldBy (test_of t) (bits l.signals)) (take l.test-index l.tests)
