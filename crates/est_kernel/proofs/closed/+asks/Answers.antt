use Rattle.std.proofs.Common.{◌∙◌, sym, ap}
use Rattle.std.specs.Prelude.{◌&&◌}
use Rattle.std.specs.List.{fold}
use Rattle.std.proofs.lemmas.List.{take_all}
use Rattle.est_kernel.specs.declared.statement.Test.TheViews.{out-Operands}
use Rattle.est_kernel.specs.View.{query_of}
use Rattle.est_kernel.specs.Inner.Counting.{each_signal, is_seen}
use Rattle.est_kernel.proofs.Tests.{and_each, operands_pass}
use Rattle.est_kernel.proofs.closed.+asks.Goals as goal

pub all_ask_visible-returns : goal.all_ask_visible-returns
all_ask_visible-returns t c n counts =
    let f = is_seen c.args.interface.now n in
    let o = c.args.operands.now in
    c.loop-test.invariant n counts
    ∙ ap (fold (and_each f)
    (each_signal f (query_of (out-Operands o).first.value) && each_signal f (query_of (out-Operands o).second.value)))
    (take_all c.loop-test.test-index c.deref-test-items.result.now c.loop-test-test.false
    ∙ c.deref-test-items.ensures.value)
    ∙ sym (operands_pass f o)
