-- Legal journals of a slot: each entry is the very one that the slot step adds for its own command, at its version, to
-- the entries before it, and versions never fall (this project's own form).
use Rattle.std.specs.Prelude.{◌≡◌, ℕ, ◌<◌, ◌≤◌, List, [], ◌∷◌, ◌++◌, Option, Some, None, length, take, fold, slice_get}
use Rattle.rbac_policy.specs.declared.commands.Entry.{Entry}
use Rattle.rbac_policy.specs.Entries.{logins}
use Rattle.rbac_policy.specs.Facts.{IsLive}
use Rattle.reactor_core.specs.Meaning.{asked, signal_of}
use Rattle.reactor_core.specs.declared.entry.SlotEntry.{SlotEntry}
use Rattle.access_core.specs.declared.command.SlotCommand.{SlotCommand}
use Rattle.access_core.specs.declared.command.SlotCommand.TheVariants.{Move, Look, Audit}
use Rattle.access_core.specs.declared.reply.Reply.{Reply}
use Rattle.access_core.specs.Needs.{IsAccepted}
use Rattle.access_core.specs.SlotStep.{SlotStep}

-- the signal that a command offers
abbrev pub signal_asked : SlotCommand → Option (List ℕ)
signal_asked (Move asked) = signal_of asked
signal_asked (Look n) = None
signal_asked Audit = None

-- the version of the last of these entries, 0 where there is none
abbrev pub last_version : List SlotEntry → ℕ
last_version journal = fold (λ (version : ℕ) (e : SlotEntry). e.stamp.version) 0 journal

-- the version of the entry is not under that of the entry before it, and not over the length of the policy list
pub record HasRightVersion (list : List Entry) (before : List SlotEntry) (entry : SlotEntry) : Type 0 where
  pub rises : last_version before ≤ entry.stamp.version
  pub known : entry.stamp.version ≤ length list

-- the slot step of the entry's own command, from its session, on this policy list: the reply and the journal afterwards
abbrev pub Judges : (judged : List Entry) → (slot : ℕ) → (before : List SlotEntry) → SlotEntry → Reply
    → (after : List SlotEntry) → Type 0
Judges judged slot before entry reply after =
    SlotStep judged slot entry.stamp.session (Move (asked entry.done)) before reply after

-- the slot step accepts the entry's command, and adds this entry
pub record Adds (judged : List Entry) (slot : ℕ) (before : List SlotEntry) (entry added : SlotEntry) : Type 0 where
  pub reply : Reply
  pub accepted : IsAccepted reply
  pub step : Judges judged slot before entry reply (before ++ added ∷ [])

-- the entry is legal after the earlier ones: its version is no lower than theirs and no higher than the list's
-- length, and the slot step at that version adds this very entry
pub record IsLegalEntry (list : List Entry) (slot : ℕ) (before : List SlotEntry) (entry : SlotEntry) : Type 0 where
  pub version : HasRightVersion list before entry
  pub added : Adds (take entry.stamp.version list) slot before entry entry

-- each of the first `count` entries of the journal is legal after those before it
abbrev pub AreLegal : List Entry → (slot : ℕ) → List SlotEntry → (count : ℕ) → Type 0
AreLegal list slot journal count =
    (at : ℕ) (entry : SlotEntry) → at < count → slice_get journal at ≡ Some entry
    → IsLegalEntry list slot (take at journal) entry

-- the journal of this slot is legal over the policy list: each of its entries is
abbrev pub IsLegal : List Entry → (slot : ℕ) → List SlotEntry → Type 0
IsLegal list slot journal = AreLegal list slot journal (length journal)

-- the session has ended by this version: its number was given within the first `version` entries of the policy list,
-- and after these entries it doesn't live
pub record HasEnded (list : List Entry) (session version : ℕ) : Type 0 where
  pub given : session ≤ logins (take version list)
  pub ended : ¬ (IsLive (take version list) session)
