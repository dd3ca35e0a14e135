-- One journal more, and the first finding of a journal.
use Rattle.std.proofs.Common.{◌≡◌, ◌∙◌, ℕ, ◌+◌, List, take, refl, sym, subst, below_more}
use Rattle.std.specs.Prelude.{Some, slice_get}
use Rattle.std.proofs.lemmas.Option.{same_Some}
use Rattle.rbac_policy.specs.declared.commands.Entry.{Entry}
use Rattle.reactor_core.specs.declared.entry.SlotEntry.{SlotEntry}
use Rattle.audit_report.specs.declared.slot_audit.EntryFault.{EntryFault}
use Rattle.audit_report.specs.declared.slot_audit.EntryFault.TheVariants.{Refused, Reaction, Memory}
use Rattle.audit_report.specs.Findings.{IsFirstAt, IsFirstOfSlot, AreSlotsLegal}
use Rattle.audit_report.specs.Inner.Faults.{IsFaultOf, finding_of}
use Rattle.access_core.specs.Journals.{HasRightVersion, AreLegal, IsLegal}

-- one journal more is legal
pub slots_more : (entries : List Entry) (slots : List (List SlotEntry)) (count : ℕ) (journal : List SlotEntry)
    → AreSlotsLegal entries slots count
    → slice_get slots count ≡ Some journal → IsLegal entries count journal → AreSlotsLegal entries slots (count + 1)
slots_more entries slots count journal legal there here = λ k x low is.
    below_more (λ k. (x : List SlotEntry) → slice_get slots k ≡ Some x → IsLegal entries k x) count
    (λ k below x is. legal k x below is)
    (λ x is. subst (IsLegal entries count) (same_Some journal x (sym there ∙ is)) here)
    k low x is

-- the first entry of which this holds
pub first_at : (entries : List Entry) (slot : ℕ) (journal : List SlotEntry) (at : ℕ) (e : SlotEntry)
    (Finds : (before : List SlotEntry) → SlotEntry → Type 0)
    → AreLegal entries slot journal at → slice_get journal at ≡ Some e → Finds (take at journal) e
    → IsFirstAt entries slot journal (at + 1) Finds
first_at entries slot journal at e Finds before there finds =
    record { at = at; counted = refl; before = before; entry = e; there = there; finds = finds }

-- the finding of a fault is the first one of the journal
pub fault_first : (entries : List Entry) (slot : ℕ) (journal : List SlotEntry) (at : ℕ) (e : SlotEntry)
    (fault : EntryFault)
    → AreLegal entries slot journal at
    → slice_get journal at ≡ Some e → HasRightVersion entries (take at journal) e
    → IsFaultOf (take e.stamp.version entries) slot (take at journal) e fault
    → IsFirstOfSlot entries slot journal (finding_of fault slot (at + 1))
fault_first entries slot journal at e (Refused code) before there version h =
    (refl, first_at entries slot journal at e _ before there (version, h))
fault_first entries slot journal at e Reaction before there version h =
    (refl, first_at entries slot journal at e _ before there (version, h))
fault_first entries slot journal at e Memory before there version h = tt
