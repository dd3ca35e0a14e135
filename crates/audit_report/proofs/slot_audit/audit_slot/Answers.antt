use Rattle.std.proofs.Common.{◌≡◌, ◌∙◌, ℕ, ◌<◌, ◌≤◌, List, [], ◌∷◌, ◌++◌, length, take, refl, sym, ap, subst, arith}
use Rattle.std.specs.Prelude.{Some, slice_get}
use Rattle.std.proofs.lemmas.List.{length-take-le}
use Rattle.std.proofs.lemmas.Option.{slice_get_read}
use Rattle.rbac_policy.specs.declared.policy.Policy.{Policy}
use Rattle.rbac_policy.specs.StandsFor.{StandsFor}
use Rattle.reactor_core.specs.declared.entry.SlotEntry.{SlotEntry}
use Rattle.audit_report.specs.Findings.{IsFirstOfSlot}
use Rattle.audit_report.specs.Inner.Faults.{IsFaultOf}
use Rattle.access_core.specs.Journals.{HasRightVersion, Adds}
use Rattle.audit_report.proofs.Fronts.{front_stands}
use Rattle.access_core.proofs.Legality.{take_next, next_version, legal_more}
use Rattle.audit_report.proofs.Walking.{fault_first}
use Rattle.audit_report.proofs.slot_audit.audit_slot.Goals as goal

pub returns-in-Err-clause-err : goal.returns-in-Err-clause-err
returns-in-Err-clause-err g c =
    let entries = c.args.entries.now in
    let number = c.args.number in
    let journal = c.args.journal.now in
    let at = c.loop-at.at in
    let e = c.index-journal-at.result in
    let fault = c.in-Err.fault in
    let low : at < length journal = omega arith in
    let there : slice_get journal at ≡ Some e = slice_get_read journal
    (length journal) at e refl low c.index-journal-at.is in
    let known : e.stamp.version ≤ length entries = omega (arith, c.if-next-entries.false) in
    let right : HasRightVersion entries (take at journal) e =
    record { rises = omega (arith, c.loop-at.invariant.last, c.if-next-version.false); known = known } in
    let stands : StandsFor c.absorb_up_to.new.policy (take e.stamp.version entries) =
    subst (λ (p : Policy). StandsFor p (take e.stamp.version entries)) (sym c.absorb_up_to.ensures)
    (front_stands entries c.requires.list e.stamp.version) in
    let long : length (take e.stamp.version entries) ≡ e.stamp.version = length-take-le e.stamp.version entries known in
    let why : IsFaultOf (take e.stamp.version entries) number (take at journal) e fault =
    subst (λ (b : List SlotEntry). IsFaultOf (take e.stamp.version entries) number b e fault)
    c.loop-at.invariant.journal
    (subst (λ (k : ℕ). IsFaultOf (take e.stamp.version entries) k c.loop-at.slot.journal e fault)
    c.loop-at.invariant.number
    (c.in-Err.ensures.step (take e.stamp.version entries) stands long)) in
    subst (IsFirstOfSlot entries number journal) (sym c.finding_of.ensures)
    (fault_first entries number journal at e fault c.loop-at.invariant.legal there right why)

pub loop-at-preserved : goal.loop-at-preserved
loop-at-preserved g c =
    let entries = c.args.entries.now in
    let number = c.args.number in
    let journal = c.args.journal.now in
    let at = c.loop-at.at in
    let e = c.index-journal-at.result in
    let low : at < length journal = omega arith in
    let there : slice_get journal at ≡ Some e = slice_get_read journal
    (length journal) at e refl low c.index-journal-at.is in
    let known : e.stamp.version ≤ length entries = omega (arith, c.if-next-entries.false) in
    let right : HasRightVersion entries (take at journal) e =
    record { rises = omega (arith, c.loop-at.invariant.last, c.if-next-version.false); known = known } in
    let stands : StandsFor c.absorb_up_to.new.policy (take e.stamp.version entries) =
    subst (λ (p : Policy). StandsFor p (take e.stamp.version entries)) (sym c.absorb_up_to.ensures)
    (front_stands entries c.requires.list e.stamp.version) in
    let long : length (take e.stamp.version entries) ≡ e.stamp.version = length-take-le e.stamp.version entries known in
    let step = c.in_default.ensures.step (take e.stamp.version entries) stands long in
    let added : Adds (take e.stamp.version entries) number (take at journal) e e =
    subst (λ (b : List SlotEntry). Adds (take e.stamp.version entries) number b e e) c.loop-at.invariant.journal
    (subst (λ (k : ℕ). Adds (take e.stamp.version entries) k c.loop-at.slot.journal e e) c.loop-at.invariant.number
    step.0) in
    record {
      policy = c.absorb_up_to.ensures;
      known = known;
      last = sym (next_version journal at e there);
      number = c.in_default.ensures.number ∙ c.loop-at.invariant.number;
      journal = step.1 ∙ ap (λ (b : List SlotEntry). b ++ e ∷ []) c.loop-at.invariant.journal
          ∙ sym (take_next journal at e there);
      legal = legal_more entries number journal at e c.loop-at.invariant.legal there
          (record { version = right; added = added });
    }

pub returns-clause-ok : goal.returns-clause-ok
returns-clause-ok g c = λ at entry low there. c.loop-at.invariant.legal at entry
    (omega (arith, low, c.loop-at-test.false)) there
