use Rattle.std.proofs.Common.{ap}
use Rattle.std.specs.Prelude.{Ok, Err}
use Rattle.access_core.specs.declared.reply.Reply.TheVariants.{Refused}
use Rattle.access_core.proofs.Entries.{entry_answered}
use Rattle.access_core.proofs.slot.discard_inputs.Goals as goal

pub returns-in-Ok-clause-step : goal.returns-in-Ok-clause-step
returns-in-Ok-clause-step c =
    entry_answered c.args.reactor.now _ c.args.stamp (Ok c.in-Ok.field-0) _ _ c.in-Ok.ensures.answer
    c.added_to.ensures

pub returns-in-Err-clause-step : goal.returns-in-Err-clause-step
returns-in-Err-clause-step c =
    entry_answered c.args.reactor.now _ c.args.stamp (Err c.in-Err.refusal) _ _ c.in-Err.ensures.answer
    (ap Refused c.from.ensures)
