-- What an event changes, and what it took to be allowed (this project's own form).
use Rattle.std.specs.Prelude.{◌≡◌, ◌⊎◌, ℕ, ◌≤◌, [], ◌∷◌, ◌++◌, Option, Some, Ok, IsTrue, length, take, slice_get}
use Rattle.std.specs.Prelude.{slice_set}
use Rattle.rbac_policy.specs.declared.commands.AdminCommand.{AdminCommand}
use Rattle.rbac_policy.specs.declared.commands.Entry.{Entry}
use Rattle.rbac_policy.specs.Entries.{is_administrative}
use Rattle.rbac_admin.specs.Conditions.{Administers}
use Rattle.rbac_admin.specs.PolicyStep.{PolicyStep, entry_of}
use Rattle.rbac_admin.specs.Room.{HasRoomFor}
use Rattle.reactor_core.specs.Meaning.{PastMove}
use Rattle.reactor_core.specs.Answers.{HasRoom}
use Rattle.reactor_core.specs.Meaning.{entry, word_of}
use Rattle.access_core.specs.declared.command.SlotCommand.{SlotCommand}
use Rattle.access_core.specs.Desk.{accepted_reply}
use Rattle.access_core.specs.Needs.{Needs, IsAccepted}
use Rattle.access_core.specs.SlotState.{SlotState}
use Rattle.access_core.specs.SlotStep.{tells_added}
use Rattle.history_events.specs.declared.event.Event.{Event}
use Rattle.history_events.specs.declared.event.Event.TheVariants.{Admin, OnSlot}
use Rattle.history_events.specs.SlotAdditions.{IsMoveOf, OnlyAsks}
use Rattle.history_events.specs.Runs.{Moment}

-- one entry is added to the policy list, which has room for it: that of the command, with the session that gave it,
-- which the policy step accepts. A command that administers the policy is given by a session that may do so. The reply
-- tells the version with the entry, and of a login the number of its session. No slot is changed
pub record AddsPolicyEntry (session : Option ℕ) (command : AdminCommand) (m : Moment) : Type 0 where
  pub entry : Entry
  pub is : entry ≡ entry_of session command
  pub accepted : PolicyStep m.before.entries session command (Ok entry)
  pub allowed : IsTrue (is_administrative command) → Administers m.before.entries session
  pub room : HasRoomFor command m.before.entries
  pub added : m.after.entries ≡ m.before.entries ++ entry ∷ []
  pub told : m.reply ≡ accepted_reply m.before.entries command
  pub slots : m.after.slots ≡ m.before.slots

-- one entry is added to the journal of the slot, which has room for it: that of the command, which the session may give
-- at the version of the event; no other slot is changed, and no policy entry
pub record AddsSlotEntry (version slot session : ℕ) (command : SlotCommand) (m : Moment) : Type 0 where
  pub known : version ≤ length m.before.entries
  pub allowed : Needs (take version m.before.entries) slot session command
  pub old : SlotState
  pub there : slice_get m.before.slots slot ≡ Some old
  pub does : PastMove
  pub is : IsMoveOf command old.journal does
  pub room : HasRoom old.journal
  pub added : let new : SlotState =
      record old { journal = old.journal ++ entry (record { version = version; session = session }) does ∷ [] } in
      m.after.slots ≡ slice_set m.before.slots slot new
  pub told : m.reply ≡ tells_added (word_of does) version
      (old.journal ++ entry (record { version = version; session = session }) does ∷ [])
  pub entries : m.after.entries ≡ m.before.entries

-- no list is changed
pub record ChangesNothing (m : Moment) : Type 0 where
  pub entries : m.after.entries ≡ m.before.entries
  pub slots : m.after.slots ≡ m.before.slots

-- an accepted command changes its one list by its one entry, but for a look and an audit, which change none; and a
-- refused one changes none
abbrev pub Changes : Event → Moment → Type 0
Changes (Admin seat session command) m =
    (IsAccepted m.reply × AddsPolicyEntry session command m)
    ⊎ ((IsAccepted m.reply → ⊥) × ChangesNothing m)
Changes (OnSlot seat version slot session command) m =
    (IsAccepted m.reply × AddsSlotEntry version slot session command m)
    ⊎ ((IsAccepted m.reply → OnlyAsks command) × ChangesNothing m)
