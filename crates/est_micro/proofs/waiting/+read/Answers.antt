use Rattle.std.proofs.Common.{◌∙◌, sym, ap}
use Rattle.std.specs.List.{fold}
use Rattle.std.proofs.lemmas.List.{take_all}
use Rattle.std.specs.Option.{option_or}
use Rattle.est_kernel.specs.Bits.{bits}
use Rattle.est_kernel.specs.View.{query_of}
use Rattle.est_kernel.specs.declared.statement.Test.TheViews.{out-Operands}
use Rattle.est_micro.specs.Waiting.{first_read}
use Rattle.est_micro.proofs.OpenTests.{operands_read, read_with}
use Rattle.est_micro.proofs.waiting.+read.Goals as goal

pub first_read_of_joint-returns : goal.first_read_of_joint-returns
first_read_of_joint-returns t c =
    let u = bits c.args.unasked in
    let o = c.args.operands.now in
    let parts = out-Operands o in
    c.loop-test.invariant
    ∙ ap (fold (read_with u)
    (option_or (first_read u (query_of parts.first.value)) (first_read u (query_of parts.second.value))))
    (take_all c.loop-test.test-index c.deref-test-items.result.now c.loop-test-test.false
    ∙ c.deref-test-items.ensures.value)
    ∙ sym (operands_read u o)
