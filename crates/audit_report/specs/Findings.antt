-- What an audit finds in journals: nothing, or the first thing that is wrong. The policy list is gone through first,
-- and then the slots by number, each journal in its order; at one entry of a slot the version is asked before the
-- refusals, and these before the reaction (this project's own form).
use Rattle.std.specs.Prelude.{◌≡◌, ℕ, ◌+◌, ◌<◌, List, Some, Result, Ok, Err, slice_get, take}
use Rattle.rbac_policy.specs.declared.commands.Entry.{Entry}
use Rattle.rbac_admin.specs.PolicyLists.{IsPolicyList}
use Rattle.reactor_core.specs.declared.entry.PastInstant.{PastInstant}
use Rattle.reactor_core.specs.declared.entry.Move.TheVariants.{Step}
use Rattle.reactor_core.specs.declared.entry.SlotEntry.{SlotEntry}
use Rattle.access_core.specs.declared.refusal.Refusal.{Refusal}
use Rattle.access_core.specs.declared.refusal.Refusal.TheVariants as refusal
use Rattle.access_core.specs.declared.reply.Reply.TheVariants as reply
use Rattle.access_core.specs.Refusals.{code_of}
use Rattle.audit_report.specs.declared.finding.Finding.{Finding}
use Rattle.audit_report.specs.declared.finding.Finding.TheVariants.{Policy, Version, Refused, Reaction, Memory}
use Rattle.access_core.specs.Journals.{HasRightVersion, Judges, Adds, AreLegal, IsLegal}
use Rattle.audit_report.specs.Replaying.{IsRightAt}

-- this is the first place of the policy list, counted from 1, where it is wrong; one that ends before the opening
-- entries do is wrong at the place after its last entry
pub record IsFirstWrong (entries : List Entry) (place : ℕ) : Type 0 where
  pub at : ℕ
  pub counted : place ≡ at + 1
  pub before : (earlier : ℕ) → earlier < at → IsRightAt entries earlier
  pub wrong : ¬ (IsRightAt entries at)

-- the finding is that first place; memory may be refused at any time
abbrev pub IsPolicyFinding : List Entry → Finding → Type 0
IsPolicyFinding entries (Policy place) = IsFirstWrong entries place
IsPolicyFinding entries (Version slot place) = ⊥
IsPolicyFinding entries (Refused slot place code) = ⊥
IsPolicyFinding entries (Reaction slot place) = ⊥
IsPolicyFinding entries Memory = Unit {0}

-- the entry's command is refused, by a refusal of this number, which isn't want of memory
pub record IsRefusedWith (judged : List Entry) (slot : ℕ) (before : List SlotEntry) (entry : SlotEntry)
    (code : ℕ) : Type 0 where
  pub given : Refusal
  pub step : Judges judged slot before entry (reply.Refused given) before
  pub ample : ¬ (given ≡ refusal.Memory)
  pub numbered : code ≡ code_of given

-- the entry is a step that is accepted, but its inputs or its outputs aren't those of the reaction
pub record ReactsOtherwise (judged : List Entry) (slot : ℕ) (before : List SlotEntry) (entry : SlotEntry) : Type 0 where
  pub stored : PastInstant
  pub steps : entry.done ≡ Step stored
  pub added : SlotEntry
  pub adds : Adds judged slot before entry added
  pub other : ¬ (added ≡ entry)

-- at this place of the journal, counted from 1, is the first entry that isn't legal, and this holds of it, with those
-- before it
pub record IsFirstAt (entries : List Entry) (slot : ℕ) (journal : List SlotEntry) (place : ℕ)
    (Finds : (before : List SlotEntry) → SlotEntry → Type 0) : Type 0 where
  pub at : ℕ
  pub counted : place ≡ at + 1
  pub before : AreLegal entries slot journal at
  pub entry : SlotEntry
  pub there : slice_get journal at ≡ Some entry
  pub finds : Finds (take at journal) entry

-- the version of the entry falls, or is over the length of the policy list
abbrev pub FindsVersion : List Entry → (before : List SlotEntry) → SlotEntry → Type 0
FindsVersion entries before entry = ¬ (HasRightVersion entries before entry)

-- the version of the entry is right, and this holds of it on the policy list as it was at that version
abbrev pub AtItsVersion : List Entry → (Finds : (judged : List Entry) → (before : List SlotEntry) → SlotEntry → Type 0)
    → (before : List SlotEntry) → SlotEntry → Type 0
AtItsVersion entries Finds before entry =
    HasRightVersion entries before entry × Finds (take entry.stamp.version entries) before entry

-- the finding is the first one of this slot's journal; memory may be refused at any time
abbrev pub IsFirstOfSlot : List Entry → (slot : ℕ) → List SlotEntry → Finding → Type 0
IsFirstOfSlot entries slot journal (Policy place) = ⊥
IsFirstOfSlot entries slot journal (Version number place) =
    (number ≡ slot) × IsFirstAt entries slot journal place (FindsVersion entries)
IsFirstOfSlot entries slot journal (Refused number place code) =
    (number ≡ slot) × IsFirstAt entries slot journal place
    (AtItsVersion entries (λ judged before entry. IsRefusedWith judged slot before entry code))
IsFirstOfSlot entries slot journal (Reaction number place) =
    (number ≡ slot) × IsFirstAt entries slot journal place
    (AtItsVersion entries (λ judged before entry. ReactsOtherwise judged slot before entry))
IsFirstOfSlot entries slot journal Memory = Unit {0}

-- each journal of the first `count` slots is legal
abbrev pub AreSlotsLegal : List Entry → (slots : List (List SlotEntry)) → (count : ℕ) → Type 0
AreSlotsLegal entries slots count =
    (number : ℕ) (journal : List SlotEntry) → number < count → slice_get slots number ≡ Some journal
    → IsLegal entries number journal

-- the policy list and the journals of the slots before this one are as they have to be, and the finding is the first
-- one of this slot's journal
pub record IsFirstInSlots (entries : List Entry) (slots : List (List SlotEntry)) (slot : ℕ)
    (finding : Finding) : Type 0 where
  pub policy : IsPolicyList entries
  pub earlier : AreSlotsLegal entries slots slot
  pub journal : List SlotEntry
  pub there : slice_get slots slot ≡ Some journal
  pub finds : IsFirstOfSlot entries slot journal finding

-- the finding is the first one in these journals; memory may be refused at any time
abbrev pub IsFirst : List Entry → (slots : List (List SlotEntry)) → Finding → Type 0
IsFirst entries slots (Policy place) = IsFirstWrong entries place
IsFirst entries slots (Version slot place) = IsFirstInSlots entries slots slot (Version slot place)
IsFirst entries slots (Refused slot place code) = IsFirstInSlots entries slots slot (Refused slot place code)
IsFirst entries slots (Reaction slot place) = IsFirstInSlots entries slots slot (Reaction slot place)
IsFirst entries slots Memory = Unit {0}

-- there is nothing to find: the policy list begins with the opening entries, each later one is the policy step's at its
-- place, and each entry of a slot is the slot step's at its version, and the versions never fall
pub record HaveNoFinding (entries : List Entry) (slots : List (List SlotEntry)) : Type 0 where
  pub policy : IsPolicyList entries
  pub journals : (number : ℕ) (journal : List SlotEntry) → slice_get slots number ≡ Some journal
      → IsLegal entries number journal

-- the verdict of an audit that had memory: nothing is found, or this first
abbrev pub IsVerdict : List Entry → (slots : List (List SlotEntry)) → Result (Unit {0}) Finding → Type 0
IsVerdict entries slots (Ok done) = HaveNoFinding entries slots
IsVerdict entries slots (Err Memory) = ⊥
IsVerdict entries slots (Err finding) = IsFirst entries slots finding
