use Rattle.std.proofs.Common.{◌∙◌, ap}
use Rattle.std.specs.Prelude.{Err, None, is_some}
use Rattle.refusal_rules.proofs.RuleLemmas.{all_passed}
use Rattle.reactor_core.specs.declared.entry.Move.TheVariants.{Offer}
use Rattle.reactor_core.specs.Answers.{reactor_offer_rules}
use Rattle.reactor_core.specs.Meaning.{entry, is_loaded, load_after}
use Rattle.reactor_core.proofs.OneMeaning.{is_loaded_where}
use Rattle.reactor_core.proofs.AnswerLemmas.{offer_stays}
use Rattle.reactor_core.proofs.Steps.{after_snoc}
use Rattle.access_core.specs.declared.reply.Reply.TheVariants.{Refused}
use Rattle.access_core.proofs.slot.offer_signal.Goals as goal

pub returns-in-Ok-clause-loaded : goal.returns-in-Ok-clause-loaded
returns-in-Ok-clause-loaded c =
    let answer = c.in-Ok.ensures in
    let passed = all_passed (reactor_offer_rules c.args.reactor.now answer.running c.args.signal.now) _ _
    (λ refusal e. let no = e.0 in cc) answer.given in
    ap is_loaded passed.1.1
    ∙ ap is_some (after_snoc load_after None c.args.reactor.now (entry c.args.stamp (Offer c.args.signal.now)))
    ∙ is_loaded_where c.args.reactor.now answer.running answer.runs

pub returns-in-Err-clause-loaded : goal.returns-in-Err-clause-loaded
returns-in-Err-clause-loaded c =
    let answer = c.in-Err.ensures in
    ap is_loaded
    (offer_stays c.args.reactor.now c.args.stamp c.args.signal.now c.in-Err.refusal c.offer.new.self answer)
    ∙ is_loaded_where c.args.reactor.now answer.running answer.runs

pub returns-in-Err-clause-step : goal.returns-in-Err-clause-step
returns-in-Err-clause-step c = record {
  answer = Err c.in-Err.refusal;
  given = c.in-Err.ensures;
  replied = record {
    replied = ap Refused c.from.ensures;
    stays = offer_stays c.args.reactor.now c.args.stamp c.args.signal.now c.in-Err.refusal c.offer.new.self
        c.in-Err.ensures;
  };
}
