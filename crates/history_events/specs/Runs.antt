-- Runs of events: what each event does to the policy list, the slots and what the seats have seen, and what it is
-- answered (this project's own form).
use Rattle.std.specs.Prelude.{◌≡◌, ℕ, ◌≤◌, List, [], ◌∷◌, ◌++◌, Option, Some, None, length, max, slice_get, slice_set}
use Rattle.std.specs.Prelude.{slice_index_or, map, Bool, true, false}
use Rattle.std.specs.List.{range_with_len}
use Rattle.refusal_rules.specs.Rules.{Rules, RefuseUnless, accept, ◌▸◌}
use Rattle.rbac_policy.specs.declared.commands.AdminCommand.{AdminCommand}
use Rattle.rbac_policy.specs.declared.commands.Entry.{Entry}
use Rattle.reactor_core.specs.declared.entry.SlotEntry.{SlotEntry}
use Rattle.access_core.specs.declared.command.SlotCommand.{SlotCommand}
use Rattle.access_core.specs.declared.refusal.Refusal.{Refusal}
use Rattle.access_core.specs.declared.refusal.Refusal.TheVariants.{Behind, Memory}
use Rattle.access_core.specs.declared.reply.Reply.{Reply}
use Rattle.access_core.specs.declared.reply.Reply.TheVariants.{Refused}
use Rattle.access_core.specs.Answering.{ByRules}
use Rattle.access_core.specs.SlotState.{SlotState}
use Rattle.access_core.specs.Desk.{DeskState, opening_desk, desk_at, AdminStep, DeskStep}
use Rattle.history_events.specs.declared.event.TheConstants.{SEATS}
use Rattle.history_events.specs.declared.event.Event.{Event}
use Rattle.history_events.specs.declared.event.Event.TheVariants.{Admin, OnSlot}

-- the policy list, the slots, and for each seat the newest version that it has seen
pub record WorldState : Type 0 where
  pub entries : List Entry
  pub slots : List SlotState
  pub seen : List ℕ

-- the opening entries, sixteen empty slots, and sixteen seats that have seen nothing
abbrev pub opening_world : WorldState
opening_world = record {
  entries = opening_desk.entries;
  slots = opening_desk.slots;
  seen = map (λ seat. 0) (range_with_len 0 SEATS);
}

-- the version of the last entry of a journal, or this one where there is none
abbrev pub last_version : ℕ → List SlotEntry → ℕ
last_version version [] = version
last_version version (e ∷ later) = last_version e.stamp.version later

-- the journal of a slot; a number over the last has none
abbrev pub journal_in : Option SlotState → List SlotEntry
journal_in None = []
journal_in (Some slot) = slot.journal

-- the journal of the slot of this number
abbrev pub journal_at : WorldState → (slot : ℕ) → List SlotEntry
journal_at world slot = journal_in (slice_get world.slots slot)

-- the newest version that the slot's last entry bears or the seat has seen
abbrev pub newest_known : WorldState → (seat slot : ℕ) → ℕ
newest_known world seat slot = max (last_version 0 (journal_at world slot)) (slice_index_or world.seen seat 0)

-- the rules of the version of an event on a slot: it is not under what slot and seat know, and there is such a version
abbrev pub version_rules : WorldState → (seat version slot : ℕ) → Rules Refusal
version_rules world seat version slot =
    RefuseUnless (newest_known world seat slot ≤ version) (Behind version (newest_known world seat slot))
    ▸ RefuseUnless (version ≤ length world.entries) (Behind version (length world.entries))
    ▸ accept

-- the seat has seen this version, too
abbrev pub has_seen : (seat version : ℕ) → List ℕ → List ℕ
has_seen seat version seen = slice_set seen seat (max (slice_index_or seen seat 0) version)

-- the world as a desk
abbrev pub desk_of : WorldState → DeskState
desk_of world = record { entries = world.entries; slots = world.slots }

-- a policy command is answered by the policy step on the whole list, which the seat has then seen
pub record Administered (seat : ℕ) (session : Option ℕ) (command : AdminCommand) (before : WorldState) (reply : Reply)
    (after : WorldState) : Type 0 where
  pub step : AdminStep session command (desk_of before) reply (desk_of after)
  pub seen : after.seen ≡ has_seen seat (length after.entries) before.seen

-- a command on a slot is answered by the slot step on the first `version` entries of the policy list, and the seat has
-- then seen that version
pub record Judged (seat version slot session : ℕ) (command : SlotCommand) (before : WorldState) (reply : Reply)
    (after : WorldState) : Type 0 where
  pub step : DeskStep slot session command (desk_at version (desk_of before)) reply (desk_at version (desk_of after))
  pub entries : after.entries ≡ before.entries
  pub seen : after.seen ≡ has_seen seat version before.seen

-- the reply to an event, and the world afterwards
abbrev pub EventStep : Event → (before : WorldState) → Reply → (after : WorldState) → Type 0
EventStep (Admin seat session command) before = Administered seat session command before
EventStep (OnSlot seat version slot session command) before =
    ByRules (version_rules before seat version slot) (Judged seat version slot session command) before

-- an event, its reply, and the world before and after it
pub record Moment : Type 0 where
  pub before : WorldState
  pub event : Event
  pub reply : Reply
  pub after : WorldState

-- the moments follow one another, from this world on
abbrev pub Follow : WorldState → List Moment → Type 0
Follow world [] = Unit {0}
Follow world (m ∷ later) = (m.before ≡ world) × EventStep m.event m.before m.reply m.after × Follow m.after later

-- the moments are a run: they follow one another from the opening world on
abbrev pub IsRun : List Moment → Type 0
IsRun moments = Follow opening_world moments

-- the world after moments that follow one another from this world on
abbrev pub world_after : WorldState → List Moment → WorldState
world_after world [] = world
world_after world (m ∷ later) = world_after m.after later

-- in some run, this moment comes after this past
pub record Comes (past : List Moment) (m : Moment) : Type 0 where
  pub later : List Moment
  pub run : IsRun (past ++ m ∷ later)

-- the reply is that memory was refused
abbrev pub wants_memory : Reply → Bool
wants_memory (Refused Memory) = true
wants_memory _ = false

-- in some run, these events come one after another, and nothing else; memory is refused to none of them
pub record EndsIn (events : List Event) (replies : List Reply) (world : WorldState) : Type 0 where
  pub moments : List Moment
  pub run : IsRun moments
  pub are : map (λ (m : Moment). m.event) moments ≡ events
  pub answered : map (λ (m : Moment). m.reply) moments ≡ replies
  pub ends : world_after opening_world moments ≡ world
  pub ample : (place : ℕ) (reply : Reply) → slice_get replies place ≡ Some reply → wants_memory reply ≡ false
