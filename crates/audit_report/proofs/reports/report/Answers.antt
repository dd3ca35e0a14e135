use Rattle.std.proofs.Common.{◌≡◌, ◌∙◌, ℕ, ◌<◌, List, ◌++◌, length, take, refl, sym, ap, arith, append_assoc}
use Rattle.std.proofs.Common.{string_bytes}
use Rattle.std.specs.Prelude.{Some, slice_get}
use Rattle.std.proofs.lemmas.Option.{slice_get_read}
use Rattle.reactor_core.specs.declared.entry.SlotEntry.{SlotEntry}
use Rattle.audit_report.specs.ReportText.{policy_line, slot_line, slot_lines}
use Rattle.audit_report.proofs.Lines.{lines_more}
use Rattle.audit_report.proofs.reports.report.Goals as goal

pub loop-number-preserved : goal.loop-number-preserved
loop-number-preserved c =
    let slots = c.args.slots.now in
    let number = c.loop-number.number in
    let journal = c.index-slots-number.result in
    let low : number < length slots = omega arith in
    let there : slice_get slots number ≡ Some journal = slice_get_read slots
    (length slots) number journal refl low c.index-slots-number.is in
    let head : List ℕ = policy_line c.args.policy.now in
    let lines : List ℕ = slot_lines 0 (take number slots) in
    c.in_ok-add_slot.ensures
    ∙ ap (λ (j : List SlotEntry). string_bytes c.loop-number.text ++ slot_line number j)
    (c.entries.ensures ∙ sym c.index-slots-number.is)
    ∙ ap (λ (text : List ℕ). text ++ slot_line number journal) c.loop-number.invariant
    ∙ append_assoc head lines (slot_line number journal)
    ∙ ap (λ (text : List ℕ). head ++ text) (sym (lines_more slots number journal there))
