-- What comes of giving a slot the command of one entry: private to the audit of a slot.
use Rattle.std.specs.Prelude.{◌≡◌, ℕ, ◌-◌, List, [], ◌∷◌, ◌++◌, Option, Some, None, Result, MatchResult, length}
use Rattle.std.specs.Prelude.{slice_get, MatchOption}
use Rattle.rbac_policy.specs.declared.commands.Entry.{Entry}
use Rattle.reactor_core.specs.declared.entry.PastInstant.{PastInstant}
use Rattle.reactor_core.specs.Meaning.{PastMove}
use Rattle.reactor_core.specs.declared.entry.SlotEntry.{SlotEntry}
use Rattle.reactor_core.specs.Meaning.{instant_of}
use Rattle.access_core.specs.declared.refusal.Refusal.{Refusal}
use Rattle.access_core.specs.declared.refusal.Refusal.TheVariants as refusal
use Rattle.access_core.specs.Refusals.{code_of}
use Rattle.audit_report.specs.declared.finding.Finding.{Finding}
use Rattle.audit_report.specs.declared.finding.Finding.TheVariants as finding
use Rattle.audit_report.specs.declared.slot_audit.EntryFault.{EntryFault}
use Rattle.audit_report.specs.declared.slot_audit.EntryFault.TheVariants.{Refused, Reaction, Memory}
use Rattle.access_core.specs.Journals.{Adds}
use Rattle.audit_report.specs.Findings.{IsRefusedWith, ReactsOtherwise}

-- the instant that an entry keeps, if there is one and it is a step
abbrev pub instant_in : Option SlotEntry → Option PastInstant
instant_in None = None
instant_in (Some e) = instant_of e.done

-- the instant that the last of the entries keeps, if it is a step
abbrev pub last_instant : List SlotEntry → Option PastInstant
last_instant entries = instant_in (slice_get entries (length entries - 1))

-- where the move is a step, the last of the entries keeps its instant
abbrev pub KeepsInstant : List SlotEntry → PastMove → Type 0
KeepsInstant entries done = MatchOption (instant_of done) (Unit {0}) (λ i. last_instant entries ≡ Some i)

-- the fault of an entry whose command is refused so
abbrev pub entry_fault_of : Refusal → EntryFault
entry_fault_of refusal.TooLong = Refused (code_of refusal.TooLong)
entry_fault_of refusal.NotJson = Refused (code_of refusal.NotJson)
entry_fault_of refusal.NotARequest = Refused (code_of refusal.NotARequest)
entry_fault_of refusal.AlreadyLoggedIn = Refused (code_of refusal.AlreadyLoggedIn)
entry_fault_of (refusal.Policy given) = Refused (code_of (refusal.Policy given))
entry_fault_of (refusal.Module given) = Refused (code_of (refusal.Module given))
entry_fault_of (refusal.Stuck undecided) = Refused (code_of (refusal.Stuck undecided))
entry_fault_of refusal.NoSlot = Refused (code_of refusal.NoSlot)
entry_fault_of refusal.Occupied = Refused (code_of refusal.Occupied)
entry_fault_of refusal.Empty = Refused (code_of refusal.Empty)
entry_fault_of refusal.JournalFull = Refused (code_of refusal.JournalFull)
entry_fault_of (refusal.Behind found seen) = Refused (code_of (refusal.Behind found seen))
entry_fault_of refusal.Memory = Memory

-- this is why the slot doesn't add the entry after those before it
abbrev pub IsFaultOf : (judged : List Entry) → (slot : ℕ) → (before : List SlotEntry) → SlotEntry → EntryFault → Type 0
IsFaultOf judged slot before entry (Refused code) = IsRefusedWith judged slot before entry code
IsFaultOf judged slot before entry Reaction = ReactsOtherwise judged slot before entry
IsFaultOf judged slot before entry Memory = Unit {0}

-- the slot adds this very entry, or the answer is why it doesn't
abbrev pub Replays : (judged : List Entry) → (slot : ℕ) → (before : List SlotEntry) → SlotEntry
    → Result (Unit {0}) EntryFault
    → (after : List SlotEntry) → Type 0
Replays judged slot before entry answer after =
    MatchResult answer
    (λ done. Adds judged slot before entry entry × (after ≡ before ++ entry ∷ []))
    (IsFaultOf judged slot before entry)

-- the finding of a fault at this place of the slot's journal
abbrev pub finding_of : EntryFault → (slot place : ℕ) → Finding
finding_of (Refused code) slot place = finding.Refused slot place code
finding_of Reaction slot place = finding.Reaction slot place
finding_of Memory slot place = finding.Memory
