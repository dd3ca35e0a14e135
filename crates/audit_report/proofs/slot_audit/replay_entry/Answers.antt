use Rattle.std.proofs.Common.{◌∙◌, List, ap, rules, subst, sym}
use Rattle.reactor_core.specs.declared.entry.SlotEntry.{SlotEntry}
use Rattle.access_core.specs.declared.command.SlotCommand.TheVariants.{Move}
use Rattle.audit_report.specs.Inner.Faults.{IsFaultOf, KeepsInstant}
use Rattle.audit_report.proofs.SecondEngine.{opinion_holds}
use Rattle.audit_report.proofs.Replayed.{judges, fault_is, adds, otherwise}
use Rattle.audit_report.proofs.slot_audit.replay_entry.Goals as goal
use Rattle.audit_report.proofs.slot_audit.replay_entry.Goals.{else-holds-via-then-holds+else-keeps_instant}
use Rattle.audit_report.proofs.slot_audit.replay_entry.Goals.{else-holds-via-else-holds}

pub returns-in-Refused-clause-step : goal.returns-in-Refused-clause-step
returns-in-Refused-clause-step g c = λ judged stands version.
    let slot = c.args.slot.now in
    let e = c.args.entry.now in
    let step = judges judged slot.number c.new-session.result (Move c.in-Ok.asked) slot.journal e _
    c.decide_slot.new.slot.journal
    c.new-session.ensures (ap Move c.in-Ok.ensures) (c.in-Refused.ensures.step judged stands) in
    subst (IsFaultOf judged slot.number slot.journal e) (sym c.entry_fault_of.ensures)
    (fault_is judged slot.number slot.journal e c.in-Refused.refusal c.decide_slot.new.slot.journal version step)

pub returns-then-keeps_instant : goal.returns-then-keeps_instant
returns-then-keeps_instant g c =
    let slot = c.args.slot.now in
    let e = c.args.entry.now in
    let after = c.decide_slot.new.slot.journal in
    let keeps : KeepsInstant after e.done =
    subst (λ (j : List SlotEntry). KeepsInstant j e.done) (c.entries.ensures ∙ c.journal.ensures)
    (c.if-keeps_instant.ensures.0 (search rules)) in
    record {
      number = c.decide_slot.ensures.number;
      step = λ judged stands version. adds judged slot.number slot.journal e c.decide_slot.result after version
          (judges judged slot.number c.new-session.result (Move c.in-Ok.asked) slot.journal e c.decide_slot.result after
          c.new-session.ensures (ap Move c.in-Ok.ensures) (c.decide_slot.ensures.step judged stands))
          c.in_default-decide_slot.not-Refused keeps;
    }

pub returns : goal.returns
returns g c =
    let slot = c.args.slot.now in
    let e = c.args.entry.now in
    let after = c.decide_slot.new.slot.journal in
    record {
      number = c.decide_slot.ensures.number;
      step = λ judged stands version.
          let step = judges judged slot.number c.new-session.result
          (Move c.in-Ok.asked) slot.journal e c.decide_slot.result
          after c.new-session.ensures (ap Move c.in-Ok.ensures) (c.decide_slot.ensures.step judged stands) in
          let loses : KeepsInstant after e.done → ⊥ = λ keeps. elim c.else-holds.branch [
            | else-holds-via-then-holds+else-keeps_instant w ↦
                absurd (search (
                  rules,
                  w.if-keeps_instant.ensures.1 (subst (λ (j : List SlotEntry). KeepsInstant j e.done)
                      (sym (w.entries.ensures ∙ w.journal.ensures)) keeps),
                ))
            | else-holds-via-else-holds w ↦
                opinion_holds c.one_module.ensures judged slot.number e.stamp.session slot.journal
                c.decide_slot.result after c.in_default-decide_slot.not-Refused e.done
                c.opinion_of-opinion.result step c.opinion_of-opinion.ensures keeps
                (c.holds_after-holds.ensures.other w.if-holds.false)
          ] in
          otherwise judged slot.number slot.journal e c.decide_slot.result after version step
          c.in_default-decide_slot.not-Refused loses;
    }
