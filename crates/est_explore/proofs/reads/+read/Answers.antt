use Rattle.std.proofs.Common.{◌∙◌, List, subst}
use Rattle.std.proofs.lemmas.List.{take_all}
use Rattle.est_kernel.specs.Bits.{bits}
use Rattle.est_kernel.specs.View.{query_of}
use Rattle.est_kernel.specs.declared.statement.Test.{Test}
use Rattle.est_kernel.specs.declared.statement.Test.TheViews.{out-Operands}
use Rattle.est_explore.proofs.ReadLemmas.{AreReadBy, operands_read, read_next}
use Rattle.est_explore.proofs.reads.+read.Goals as goal

pub read_by_joint-loop-test-preserved : goal.read_by_joint-loop-test-preserved
read_by_joint-loop-test-preserved t c =
    let parts = out-Operands c.args.operands.now in
    read_next (query_of parts.first.value) (query_of parts.second.value) c.deref-test-items.result.now
    c.loop-test.test-index c.test-item.result c.loop-test.signals c.read_by-in-loop-test.result
    c.union-signals-in-loop-test.result c.loop-test-test.true c.test-item.is c.union-signals-in-loop-test.ensures
    c.loop-test.invariant c.read_by-in-loop-test.ensures

pub read_by_joint-returns : goal.read_by_joint-returns
read_by_joint-returns t c =
    let parts = out-Operands c.args.operands.now in
    operands_read c.args.operands.now (bits c.loop-test.signals)
    (subst (λ (ts : List Test). AreReadBy (query_of parts.first.value) (query_of parts.second.value) ts
    (bits c.loop-test.signals))
    (take_all c.loop-test.test-index c.deref-test-items.result.now c.loop-test-test.false
    ∙ c.deref-test-items.ensures.value)
    c.loop-test.invariant)
