use Rattle.std.specs.Prelude.{◌||◌}
use Rattle.std.proofs.Common.{◌∙◌, sym, ap}
use Rattle.std.specs.List.{fold}
use Rattle.std.proofs.lemmas.List.{take_all}
use Rattle.est_kernel.specs.View.{name_of, query_of}
use Rattle.est_kernel.specs.declared.statement.Test.TheViews.{out-Operands}
use Rattle.lab_ties.specs.Ties.{reads}
use Rattle.lab_ties.proofs.Operands.{operands_read, read_with}
use Rattle.lab_ties.proofs.ties.+read.Goals as goal

pub reads_of_joint-returns : goal.reads_of_joint-returns
reads_of_joint-returns t c =
    let x = name_of c.args.name in
    let o = c.args.operands.now in
    let parts = out-Operands o in
    c.loop-test.invariant
    ∙ ap (fold (read_with x) (reads x (query_of parts.first.value) || reads x (query_of parts.second.value)))
    (take_all c.loop-test.test-index c.deref-test-items.result.now c.loop-test-test.false
    ∙ c.deref-test-items.ensures.value)
    ∙ sym (operands_read x o)
