-- The desk: one policy list and sixteen slots, and what each command is answered there (this project's own form).
use Rattle.std.specs.Prelude.{◌≡◌, ℕ, ◌+◌, ◌<◌, List, [], ◌∷◌, ◌++◌, Option, Some, None, length, take, map, slice_get}
use Rattle.std.specs.Prelude.{slice_set}
use Rattle.std.specs.List.{range_with_len}
use Rattle.refusal_rules.specs.Rules.{Rule, RefuseUnless, accept, ◌▸◌}
use Rattle.rbac_policy.specs.declared.commands.AdminCommand.{AdminCommand}
use Rattle.rbac_policy.specs.declared.commands.AdminCommand.TheVariants.{AddUser, DeleteUser, AddRole, DeleteRole}
use Rattle.rbac_policy.specs.declared.commands.AdminCommand.TheVariants.{AssignUser, DeassignUser, GrantPermission}
use Rattle.rbac_policy.specs.declared.commands.AdminCommand.TheVariants.{RevokePermission, AddInheritance}
use Rattle.rbac_policy.specs.declared.commands.AdminCommand.TheVariants.{DeleteInheritance, CreateDsdSet, DeleteDsdSet}
use Rattle.rbac_policy.specs.declared.commands.AdminCommand.TheVariants.{CreateSession, DeleteSession, AddActiveRole}
use Rattle.rbac_policy.specs.declared.commands.AdminCommand.TheVariants.{DropActiveRole}
use Rattle.rbac_policy.specs.declared.commands.Entry.{Entry}
use Rattle.rbac_policy.specs.declared.objects.TheConstants.{SLOTS}
use Rattle.rbac_policy.specs.Entries.{logins}
use Rattle.rbac_policy.specs.Opening.{opening_entries}
use Rattle.rbac_admin.specs.AdminSteps.{ListRefusals, StepsOnList}
use Rattle.rbac_admin.specs.Room as room
use Rattle.reactor_core.specs.declared.entry.SlotEntry.{SlotEntry}
use Rattle.access_core.specs.declared.command.SlotCommand.{SlotCommand}
use Rattle.access_core.specs.declared.refusal.Refusal.{Refusal}
use Rattle.access_core.specs.declared.refusal.Refusal.TheVariants.{Policy, NoSlot, JournalFull, Memory}
use Rattle.access_core.specs.declared.reply.PolicyWord.{PolicyWord}
use Rattle.access_core.specs.declared.reply.PolicyWord.TheVariants as change
use Rattle.access_core.specs.declared.reply.Reply.{Reply}
use Rattle.access_core.specs.declared.reply.Reply.TheVariants.{Login, Changed}
use Rattle.access_core.specs.Answering.{IsRefused, ByRules}
use Rattle.access_core.specs.SlotState.{SlotState}
use Rattle.access_core.specs.SlotStep.{SlotStep, no_session}

-- the accepted policy entries, the oldest first, and the slots by number
pub record DeskState : Type 0 where
  pub entries : List Entry
  pub slots : List SlotState

-- the desk, when the policy list had `version` entries
abbrev pub desk_at : (version : ℕ) → DeskState → DeskState
desk_at version desk = record desk { entries = take version desk.entries }

-- an empty slot of this number
abbrev pub empty_slot : ℕ → SlotState
empty_slot number = record { number = number; journal = [] }

-- the opening entries, and sixteen empty slots
abbrev pub opening_desk : DeskState
opening_desk = record { entries = opening_entries; slots = map empty_slot (range_with_len 0 SLOTS) }

-- there are sixteen slots, and each stands at its number
pub record AreSlots (slots : List SlotState) : Type 0 where
  pub sixteen : length slots ≡ SLOTS
  pub numbered : (number : ℕ) (slot : SlotState) → slice_get slots number ≡ Some slot → slot.number ≡ number

-- how the desk tells why a policy command adds no entry
abbrev pub list_refusals : ListRefusals Refusal
list_refusals = record { told = Policy; full = JournalFull; memory = Memory }

-- refuses where the policy list has no room for the entry's command
abbrev pub list_full : List Entry → Entry → Rule Refusal
list_full = room.list_full JournalFull

-- which change of the policy the command is; a login is none of them
abbrev pub change_of : AdminCommand → Option PolicyWord
change_of (CreateSession user roles) = None
change_of (AddUser user) = Some change.AddUser
change_of (DeleteUser user) = Some change.DeleteUser
change_of (AddRole role) = Some change.AddRole
change_of (DeleteRole role) = Some change.DeleteRole
change_of (AssignUser user role) = Some change.AssignUser
change_of (DeassignUser user role) = Some change.DeassignUser
change_of (GrantPermission role operation object) = Some change.GrantPermission
change_of (RevokePermission role operation object) = Some change.RevokePermission
change_of (AddInheritance senior junior) = Some change.AddInheritance
change_of (DeleteInheritance senior junior) = Some change.DeleteInheritance
change_of (CreateDsdSet set count roles) = Some change.CreateDsdSet
change_of (DeleteDsdSet set) = Some change.DeleteDsdSet
change_of DeleteSession = Some change.DeleteSession
change_of (AddActiveRole role) = Some change.AddActiveRole
change_of (DropActiveRole role) = Some change.DropActiveRole

-- the reply to an accepted command that makes this change, or is a login, on this policy list: a login tells the number
-- of its session, and each tells the new version
abbrev pub reply_of_change : Option PolicyWord → List Entry → Reply
reply_of_change None entries = Login (logins entries + 1) (length entries + 1)
reply_of_change (Some change) entries = Changed change (length entries + 1)

-- the reply to this accepted command on the policy list
abbrev pub accepted_reply : List Entry → AdminCommand → Reply
accepted_reply entries command = reply_of_change (change_of command) entries

-- the entry is appended to the policy list, and nothing else is changed
pub record Appends (entry : Entry) (before : DeskState) (reply : Reply) (after : DeskState) : Type 0 where
  pub replied : reply ≡ accepted_reply before.entries entry.command
  pub appended : after ≡ record before { entries = before.entries ++ entry ∷ [] }

-- the reply to a policy command, which this session gives, and the desk afterwards: the policy step's, or a refusal
-- because there is no room or no memory
abbrev pub AdminStep : (session : Option ℕ) → AdminCommand → (before : DeskState) → Reply → (after : DeskState) → Type 0
AdminStep session command before reply after =
    StepsOnList list_refusals before.entries session command (λ refusal. IsRefused refusal before reply after)
    (λ entry. Appends entry before reply after)

-- refuses where there is no slot of this number
abbrev pub no_slot : ℕ → Rule Refusal
no_slot number = RefuseUnless (number < SLOTS) NoSlot

-- the slot of this number answers by the slot step, and nothing but its journal is changed
pub record InSlot (number session : ℕ) (command : SlotCommand) (before : DeskState) (reply : Reply)
    (after : DeskState) : Type 0 where
  pub slot : SlotState
  pub there : slice_get before.slots number ≡ Some slot
  pub journal : List SlotEntry
  pub step : SlotStep before.entries number session command slot.journal reply journal
  pub stored : after ≡ record before { slots = slice_set before.slots number (record slot { journal = journal }) }

-- the reply to a command on the slot of this number, which this session gives, and the desk afterwards
abbrev pub DeskStep : (number session : ℕ) → SlotCommand → (before : DeskState) → Reply → (after : DeskState) → Type 0
DeskStep number session command before =
    ByRules (no_session before.entries session ▸ no_slot number ▸ accept) (InSlot number session command) before
