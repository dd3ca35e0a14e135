use Rattle.reactor_core.specs.declared.entry.Move.TheVariants.{Load}
use Rattle.access_core.specs.declared.command.SlotCommand.TheVariants.{Move}
use Rattle.access_core.proofs.Deciding.{allowed_step, denied_step}
use Rattle.access_core.proofs.slot_step.load_admitted.Goals as goal

pub returns-in-Ok-clause-step : goal.returns-in-Ok-clause-step
returns-in-Ok-clause-step c = λ entries session admitted.
    let may = rw c.in-Ok.is at admitted in
    let done = rw may.0 at c.load.ensures.step in
    allowed_step entries c.args.slot.now.number session (Move (Load c.args.load)) _ _ _ may.1 done

pub returns-in-Err-clause-step : goal.returns-in-Err-clause-step
returns-in-Err-clause-step c = λ entries session admitted.
    let why = rw c.in-Err.is at admitted in
    denied_step entries c.args.slot.now.number session (Move (Load c.args.load)) _ _ why
