use Rattle.std.proofs.Common.{List, inr, subst}
use Rattle.reactor_core.specs.declared.entry.SlotEntry.{SlotEntry}
use Rattle.audit_report.specs.Inner.Asking.{IsSecondStepAnswer}
use Rattle.audit_report.proofs.SecondEngine.{nothing_runs, thinks_of}
use Rattle.audit_report.proofs.second_engine.opinion_of.Goals as goal

pub returns-in_default : goal.returns-in_default
returns-in_default g c = nothing_runs c.args.slot.now.journal c.args.done.now c.in_default.ensures

pub returns-in-Some-instant : goal.returns-in-Some-instant
returns-in-Some-instant g c =
    let journal = c.args.slot.now.journal in
    let here : IsSecondStepAnswer journal c.in-Some-instant.stored.outputs c.opinion_of_step.result =
    subst (λ (j : List SlotEntry). IsSecondStepAnswer j c.in-Some-instant.stored.outputs c.opinion_of_step.result)
    c.in-Some.ensures c.opinion_of_step.ensures in
    thinks_of journal c.args.done.now _ _ c.in-Some-instant.ensures (inr here)
