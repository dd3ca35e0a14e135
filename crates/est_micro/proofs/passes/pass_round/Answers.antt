use Rattle.est_micro.proofs.PassRounds.{pass_round_is}
use Rattle.est_micro.proofs.passes.pass_round.Goals as goal

pub returns-clause-made : goal.returns-clause-made
returns-clause-made c =
    pass_round_is c.args.question.now.kernel.now c.args.question.now.state.now c.args.question.now.inputs
    c.args.question.now.unasked c.args.env.now _ _ _ _ c.judged-said.result _ c.pass_sheet.ensures.net.emissions
    c.pass_sheet.ensures.passes c.judged-said.ensures.sure c.judged-said.ensures.possible
    c.update_signals.ensures.updated
