use Rattle.std.proofs.Common.{◌∙◌, sym, ap}
use Rattle.std.specs.List.{fold}
use Rattle.std.proofs.lemmas.List.{take_all}
use Rattle.est_kernel.specs.View.{query_of}
use Rattle.est_kernel.specs.declared.statement.Test.TheViews.{out-Operands}
use Rattle.est_meaning.specs.Environments.{joint_status, status_of}
use Rattle.est_meaning.proofs.TestLemmas.{joined_with, operands_status}
use Rattle.est_meaning.specs.Views.{env_of}
use Rattle.est_rounds.proofs.answer.+answer.Goals as goal

pub answer_to_joined-returns : goal.answer_to_joined-returns
answer_to_joined-returns t c =
    let e = env_of c.args.env.now in
    let o = c.args.operands.now in
    let parts = out-Operands o in
    c.loop-test.invariant
    ∙ ap (fold (joined_with c.args.connective e)
    (joint_status c.args.connective (status_of e (query_of parts.first.value))
    (status_of e (query_of parts.second.value))))
    (take_all c.loop-test.test-index c.deref-test-items.result.now c.loop-test-test.false
    ∙ c.deref-test-items.ensures.value)
    ∙ sym (operands_status c.args.connective e o)
