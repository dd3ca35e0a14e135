use Rattle.std.proofs.Common.{◌≡◌, ◌∙◌, ℕ, ◌<◌, List, length, refl, sym, subst, arith}
use Rattle.std.specs.Prelude.{Some, slice_get}
use Rattle.std.proofs.lemmas.Option.{slice_get_read, slice_get_within}
use Rattle.std.proofs.lemmas.Result.{err_from_is_err_and}
use Rattle.rbac_policy.specs.declared.commands.Entry.{Entry}
use Rattle.reactor_core.specs.declared.entry.SlotEntry.{SlotEntry}
use Rattle.rbac_admin.specs.PolicyLists.{IsPolicyList}
use Rattle.audit_report.specs.Findings.{AreSlotsLegal, IsFirstOfSlot, IsFirst}
use Rattle.access_core.specs.Journals.{IsLegal}
use Rattle.audit_report.proofs.Firsts.{first_of_slot}
use Rattle.audit_report.proofs.Walking.{slots_more}
use Rattle.audit_report.proofs.audit.audit_journals_with.Goals as goal

pub returns-in_err-audit_slot-clause-err : goal.returns-in_err-audit_slot-clause-err
returns-in_err-audit_slot-clause-err g c =
    let slots = c.args.slots.now in
    let number = c.loop-number.number in
    let journal = c.index-slots-number.result in
    let low : number < length slots = omega arith in
    let there : slice_get slots number ≡ Some journal = slice_get_read slots
    (length slots) number journal refl low c.index-slots-number.is in
    let finding = c.in_err-audit_slot.field-0.0 in
    let entries = c.entries-entries.result.now in
    let first : IsFirstOfSlot entries number journal finding =
    subst (λ (k : ℕ). IsFirstOfSlot entries k journal finding) c.slot_at.ensures
    (subst (λ (j : List SlotEntry). IsFirstOfSlot entries c.slot_at.result j finding)
    (c.entries.ensures ∙ sym c.index-slots-number.is) c.in_err-audit_slot.ensures.err) in
    let all : IsFirst entries slots finding =
    first_of_slot entries slots number journal c.in_ok-audit_policy.ensures.ok c.loop-number.invariant there finding
    first in
    let here : IsFirst c.args.policy.now slots finding = subst
    (λ (es : List Entry). IsFirst es slots finding) c.entries-entries.ensures all in
    let p = err_from_is_err_and c.from_residual-in_err-audit_slot.result c.from_residual-in_err-audit_slot.ensures.1 in
    rw (p.1, p.2) here

pub loop-number-preserved : goal.loop-number-preserved
loop-number-preserved g c =
    let slots = c.args.slots.now in
    let number = c.loop-number.number in
    let journal = c.index-slots-number.result in
    let low : number < length slots = omega arith in
    let there : slice_get slots number ≡ Some journal = slice_get_read slots
    (length slots) number journal refl low c.index-slots-number.is in
    let entries = c.entries-entries.result.now in
    let legal : IsLegal entries number journal =
    subst (λ (k : ℕ). IsLegal entries k journal) c.slot_at.ensures
    (subst (λ (j : List SlotEntry). IsLegal entries c.slot_at.result j)
    (c.entries.ensures ∙ sym c.index-slots-number.is) c.in_ok-audit_slot.ensures.ok) in
    slots_more entries slots number journal c.loop-number.invariant there legal

pub returns-clause-ok : goal.returns-clause-ok
returns-clause-ok g c =
    let slots = c.args.slots.now in
    let entries = c.entries-entries.result.now in
    let all : AreSlotsLegal entries slots (length slots) =
    λ k journal low there. c.loop-number.invariant k journal (omega (arith, low, c.loop-number-test.false)) there in
    let same : entries ≡ c.args.policy.now = c.entries-entries.ensures in
    record {
      policy = subst IsPolicyList same c.in_ok-audit_policy.ensures.ok;
      journals = λ k journal there.
          subst (λ (es : List Entry). IsLegal es k journal) same
          (all k journal (slice_get_within slots k journal there) there);
    }
