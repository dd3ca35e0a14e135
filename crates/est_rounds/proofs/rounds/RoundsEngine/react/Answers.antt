use Rattle.std.proofs.Common.{◌&&◌, ap, subst, ◌∙◌}
use Rattle.est_kernel.specs.Bits.{bits}
use Rattle.est_kernel.specs.CodeViews.{code_of}
use Rattle.est_kernel.specs.Term.{outer}
use Rattle.est_meaning.specs.Environments.{Env, is_unknown}
use Rattle.est_meaning.specs.Rules.{HasNoRule}
use Rattle.est_meaning.specs.Rounds.{JudgedSignals, last_env}
use Rattle.est_meaning.specs.States.{state_term}
use Rattle.est_meaning.proofs.AgreementLemmas.{cleared_dead}
use Rattle.est_rounds.specs.Contract.{judged_of}
use Rattle.est_rounds.proofs.Known.{undecided_is}
use Rattle.est_rounds.proofs.Reacting.{paused_state, paused_reacts, ended_reacts}
use Rattle.est_rounds.proofs.Resuming.{code_is, code_is_not}
use Rattle.est_rounds.proofs.rounds.RoundsEngine.react.Goals as goal

pub step_of-requires-clause-clear : goal.step_of-requires-clause-clear
step_of-requires-clause-clear c = cleared_dead c.args.kernel.now.root _ (λ i h. c.new-next.ensures i)

pub returns-then-is_pause-clause-ok : goal.returns-then-is_pause-clause-ok
returns-then-is_pause-clause-ok c =
    let known = c.last_known-env.ensures
    ∙ ap (λ (j : JudgedSignals). last_env j (bits c.args.inputs.now.signals)
    (state_term c.args.kernel.now.root c.args.state.now)) c.judged_signals-judged.ensures in
    let root = c.args.kernel.now.root in
    record {
      reacts = paused_reacts (judged_of c.args.kernel.now (bits c.args.inputs.now.signals))
          (bits c.args.inputs.now.signals) root
          (state_term root c.args.state.now) _ c.in-Some.step.signals
          (code_of c.in-Some.step.completion) c.step_of.new.next known
          (code_is _ _ _ c.is_pause.ensures c.if-is_pause.true) c.in-Some.ensures.some;
      next = paused_state root _ _ _ (code_of c.in-Some.step.completion) c.step_of.new.next
          (code_is _ _ _ c.is_pause.ensures c.if-is_pause.true) c.in-Some.ensures.some
          (λ i h. c.in-Some.ensures.others i h ∙ c.new-next.ensures i);
    }

pub returns-else-is_pause-clause-ok : goal.returns-else-is_pause-clause-ok
returns-else-is_pause-clause-ok c =
    let known = c.last_known-env.ensures
    ∙ ap (λ (j : JudgedSignals). last_env j (bits c.args.inputs.now.signals)
    (state_term c.args.kernel.now.root c.args.state.now)) c.judged_signals-judged.ensures in
    let root = c.args.kernel.now.root in
    record {
      reacts = ended_reacts (judged_of c.args.kernel.now (bits c.args.inputs.now.signals))
          (bits c.args.inputs.now.signals) root
          (state_term root c.args.state.now) _ c.in-Some.step.signals (code_of c.in-Some.step.completion) _ known
          (code_is_not _ _ _ c.is_pause.ensures c.if-is_pause.false) c.in-Some.ensures.some;
      next = tt;
    }

pub returns-in-None-clause-stuck : goal.returns-in-None-clause-stuck
returns-in-None-clause-stuck c =
    let known = c.last_known-env.ensures
    ∙ ap (λ (j : JudgedSignals). last_env j (bits c.args.inputs.now.signals)
    (state_term c.args.kernel.now.root c.args.state.now)) c.judged_signals-judged.ensures in
    let judged = judged_of c.args.kernel.now (bits c.args.inputs.now.signals) in
    let last = last_env judged (bits c.args.inputs.now.signals) (state_term c.args.kernel.now.root c.args.state.now) in
    record {
      cannot = subst (λ (e : Env). HasNoRule (state_term c.args.kernel.now.root c.args.state.now) e) known
          c.in-None.ensures.none;
      undecided = λ n.
          undecided_is c.last_known-env.result c.judged_signals-judged.result.signals _ c.undecided_of.ensures n
          ∙ (ap (λ (e : Env). bits c.judged_signals-judged.result.signals n && is_unknown (e (outer n))) known
          ∙ ap (λ (j : JudgedSignals). j.has n && is_unknown (last (outer n))) c.judged_signals-judged.ensures);
    }
