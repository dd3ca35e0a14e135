use Rattle.std.proofs.Common.{◌∙◌, refl, ap}
use Rattle.std.specs.Prelude.{Ok, Err}
use Rattle.reactor_core.specs.Meaning.{is_loaded}
use Rattle.reactor_core.proofs.AnswerLemmas.{load_stays}
use Rattle.access_core.specs.declared.reply.Reply.TheVariants.{Refused}
use Rattle.access_core.proofs.slot.load_module.Goals as goal

pub returns-in-Ok-clause-step : goal.returns-in-Ok-clause-step
returns-in-Ok-clause-step c = record {
  answer = Ok c.in-Ok.reactor;
  given = c.in-Ok.ensures;
  replied = (refl, c.added_to-reply.ensures);
}

pub returns-in-Err-clause-held : goal.returns-in-Err-clause-held
returns-in-Err-clause-held c =
    ap is_loaded (load_stays c.args.journal c.args.stamp c.args.load.main c.args.load.text
    (c.in-Err.refusal, c.in-Err.journal) c.in-Err.ensures)
    ∙ c.requires

pub returns-in-Err-clause-step : goal.returns-in-Err-clause-step
returns-in-Err-clause-step c = record {
  answer = Err (c.in-Err.refusal, c.in-Err.journal);
  given = c.in-Err.ensures;
  replied = record {
    replied = ap Refused c.from.ensures;
    stays = load_stays c.args.journal c.args.stamp c.args.load.main c.args.load.text
        (c.in-Err.refusal, c.in-Err.journal) c.in-Err.ensures;
  };
}
