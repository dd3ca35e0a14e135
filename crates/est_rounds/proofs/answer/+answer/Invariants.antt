use Rattle.std.proofs.Common.{◌≡◌, take}
use Rattle.std.specs.List.{fold}
use Rattle.est_kernel.specs.View.{query_of}
use Rattle.est_kernel.specs.declared.statement.Test.TheViews.{out-Operands}
use Rattle.est_meaning.specs.Environments.{joint_status, status_of}
use Rattle.est_meaning.proofs.TestLemmas.{joined_with}
use Rattle.est_meaning.specs.Views.{env_of}
use Rattle.est_rounds.proofs.answer.+answer.Given as goal

abbrev pub invariant-answer_to_joined-loop-test : goal.invariant-answer_to_joined-loop-test
invariant-answer_to_joined-loop-test l =
    let e = env_of l.env in
    let parts = out-Operands l.operands in
    l.status
    ≡ fold (joined_with l.connective e)
    (joint_status l.connective (status_of e (query_of parts.first.value))
    (status_of e (query_of parts.second.value))) (take l.test-index l.test-items)
