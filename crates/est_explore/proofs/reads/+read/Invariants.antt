use Rattle.std.proofs.Common.{take}
use Rattle.est_kernel.specs.Bits.{bits}
use Rattle.est_kernel.specs.View.{query_of}
use Rattle.est_kernel.specs.declared.statement.Test.TheViews.{out-Operands}
use Rattle.est_explore.proofs.ReadLemmas.{AreReadBy}
use Rattle.est_explore.proofs.reads.+read.Given as goal

abbrev pub invariant-read_by_joint-loop-test : goal.invariant-read_by_joint-loop-test
invariant-read_by_joint-loop-test l =
    let parts = out-Operands l.operands in
    AreReadBy (query_of parts.first.value) (query_of parts.second.value) (take l.test-index l.test-items)
    (bits l.signals)
