use Rattle.std.proofs.Common.{arith}
use Rattle.est_kernel.specs.Bits.{bits}
use Rattle.est_micro.proofs.Walks.{listed_ready}
use Rattle.est_micro.proofs.Unasked.{update_by}
use Rattle.est_micro.proofs.passes.lead_again.Goals as goal

pub returns-clause-ready : goal.returns-clause-ready
returns-clause-ready c = λ others agree ready.
    let kernel = c.args.question.now.kernel.now in
    let unasked = bits c.args.question.now.unasked in
    listed_ready unasked kernel c.args.question.now.state.now others _ _ _ _ _ _ _
    c.lead_round-is_absent.ensures.net.emissions
    (c.lead_round-is_absent.ensures.ready others agree ready) c.judged-said.ensures.sure c.judged-said.ensures.possible
    (update_by kernel.interface unasked (bits c.args.question.now.inputs) _ _ _ _ _ c.requires.apart
    c.update_signals.ensures.updated others agree)

pub returns-clause-more : goal.returns-clause-more
returns-clause-more c =
    let a = c.lead_round-is_absent.ensures.more in
    let b = c.update_signals.ensures.updated.changes.more in
    omega (arith, a, b)
