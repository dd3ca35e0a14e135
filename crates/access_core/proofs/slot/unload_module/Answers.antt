use Rattle.std.proofs.Common.{◌∙◌, ap, refl}
use Rattle.std.specs.Prelude.{Ok, Err}
use Rattle.reactor_core.specs.Meaning.{is_loaded}
use Rattle.access_core.specs.declared.reply.Reply.TheVariants.{Refused}
use Rattle.access_core.proofs.Entries.{unload_answered, unload_empties, unload_told, unload_stays}
use Rattle.access_core.proofs.slot.unload_module.Goals as goal

pub returns-in-Ok-clause-step : goal.returns-in-Ok-clause-step
returns-in-Ok-clause-step c =
    unload_answered c.args.reactor c.args.stamp (Ok c.in-Ok.journal) _ _ c.in-Ok.ensures.answer (
      refl,
      unload_told c.args.stamp.version c.len.result c.in-Ok.journal c.len.ensures
          (unload_empties c.args.reactor c.args.stamp c.in-Ok.journal c.in-Ok.ensures.answer),
    )

pub returns-in-Err-clause-held : goal.returns-in-Err-clause-held
returns-in-Err-clause-held c =
    ap is_loaded (unload_stays c.args.reactor c.args.stamp (c.in-Err.refusal, c.in-Err.reactor) c.in-Err.ensures.answer)
    ∙ c.requires

pub returns-in-Err-clause-step : goal.returns-in-Err-clause-step
returns-in-Err-clause-step c =
    unload_answered c.args.reactor c.args.stamp (Err (c.in-Err.refusal, c.in-Err.reactor)) _ _ c.in-Err.ensures.answer
    (refl, ap Refused c.from.ensures)
