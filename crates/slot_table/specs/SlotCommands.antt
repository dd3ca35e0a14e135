-- What a command on a slot is answered, under the slot's lock and on the table, and the slot and the seat afterwards
-- (this project's own form).
use Rattle.std.specs.Prelude.{◌≡◌, ◌⊎◌, ℕ, ◌<◌, ◌≤◌, List, length}
use Rattle.rbac_policy.specs.declared.commands.Entry.{Entry}
use Rattle.rbac_policy.specs.declared.objects.TheConstants.{SLOTS}
use Rattle.rbac_policy.specs.Facts.{IsLive}
use Rattle.rbac_admin.specs.declared.refusal.PolicyRefusal.TheVariants as policy
use Rattle.rbac_admin.specs.PolicyLists.{Begins, IsPolicyList}
use Rattle.policy_board.specs.declared.refusal.BoardRefusal.{BoardRefusal}
use Rattle.policy_board.specs.SeatState.{SeatState}
use Rattle.policy_board.specs.PolicyCommands.{seat_after}
use Rattle.policy_board.specs.Reads.{HasRead, IsUnread}
use Rattle.access_core.specs.declared.command.SlotCommand.{SlotCommand}
use Rattle.access_core.specs.declared.reply.Reply.{Reply}
use Rattle.access_core.specs.declared.reply.Reply.TheVariants.{Refused}
use Rattle.access_core.specs.declared.refusal.Refusal.TheVariants.{Policy, Behind, Memory, NoSlot}
use Rattle.access_core.specs.SlotStep.{SlotStep}
use Rattle.slot_table.specs.Conversions.{refusal_of_board}
use Rattle.access_core.specs.Journals.{signal_asked, IsLegal}
use Rattle.slot_table.specs.LockedState.{LockedState}
use Rattle.slot_table.specs.Receipts.{Keeps}

-- the slot's reader has read a policy list. It begins with all that this reader had seen and all that the seat knew,
-- and is no shorter than the seat's seen number. The slot step on it gives the reply and the journal. The seat then
-- knows it, and keeps a receipt of a reply that tells of an entry
pub record IsJudged (slot session : ℕ) (command : SlotCommand) (old : LockedState) (seat : SeatState) (reply : Reply)
    (new : LockedState) (after : SeatState) : Type 0 where
  pub is_list : IsPolicyList new.list
  pub later : Begins old.list new.list
  pub known : Begins seat.known new.list
  pub fresh : seat.seen ≤ length new.list
  pub step : SlotStep new.list slot session command old.journal reply new.journal
  pub seat_knows : after ≡ record (seat_after seat new.list) { kept = after.kept; room = after.room }
  pub keeps : Keeps slot session (signal_asked command) reply seat.kept after.kept

-- the policy list that the slot's reader has read is shorter than the seat's seen number, and the refusal tells both
-- lengths. Journal and seat stay, but for the seat's room
pub record IsBehind (old : LockedState) (seat : SeatState) (reply : Reply) (new : LockedState)
    (after : SeatState) : Type 0 where
  pub is_list : IsPolicyList new.list
  pub later : Begins old.list new.list
  pub stale : length new.list < seat.seen
  pub answered : reply ≡ Refused (Behind (length new.list) seat.seen)
  pub journal_stays : new.journal ≡ old.journal
  pub seat_stays : after ≡ record seat { room = after.room }

-- the slot's reader could read nothing, or the seat has no room for a receipt, and all stays but for the seat's room
pub record IsUnreadable (old : LockedState) (seat : SeatState) (reply : Reply) (new : LockedState)
    (after : SeatState) : Type 0 where
  pub answered : reply ≡ Refused Memory
  pub slot_stays : new ≡ old
  pub seat_stays : after ≡ record seat { room = after.room }

-- a command on the slot that is lent under its lock: it is judged, or what was read is too old (Behind), or nothing
-- could be read
abbrev pub LockedCommand : (slot session : ℕ) → SlotCommand → (old : LockedState) → (seat : SeatState) → Reply
    → (new : LockedState) → (after : SeatState) → Type 0
LockedCommand slot session command old seat reply new after =
    IsJudged slot session command old seat reply new after
    ⊎ IsBehind old seat reply new after
    ⊎ IsUnreadable old seat reply new after

-- there is a slot of this number, whose journal is legal over the policy list that its reader has seen, before and
-- after. Under its lock the command is answered so
pub record IsAnswered (slot session : ℕ) (command : SlotCommand) (seat : SeatState) (reply : Reply)
    (after : SeatState) : Type 0 where
  pub there : slot < SLOTS
  pub old : LockedState
  pub new : LockedState
  pub legal_before : IsLegal old.list slot old.journal
  pub legal_after : IsLegal new.list slot new.journal
  pub locked : LockedCommand slot session command old seat reply new after

-- there is no slot of this number. The seat's own reader has read a policy list: where the session lives on it the
-- reply is NoSlot, and else NoSession
pub record IsNoSlot (slot session : ℕ) (seat : SeatState) (reply : Reply) (after : SeatState) : Type 0 where
  pub none : SLOTS ≤ slot
  pub list : List Entry
  pub read : HasRead seat list after
  pub answered : ((reply ≡ Refused NoSlot) × IsLive list session)
      ⊎ ((reply ≡ Refused (Policy policy.NoSession)) × (IsLive list session → ⊥))

-- there is no slot of this number, and the seat's own read is refused
pub record IsNotAsked (slot : ℕ) (seat : SeatState) (reply : Reply) (after : SeatState) : Type 0 where
  pub none : SLOTS ≤ slot
  pub refusal : BoardRefusal
  pub unread : IsUnread seat refusal after
  pub answered : reply ≡ Refused (refusal_of_board refusal)

-- a command of this session on the slot of this number, which a seat gives
abbrev pub TableCommand : (slot session : ℕ) → SlotCommand → (seat : SeatState) → Reply → (after : SeatState) → Type 0
TableCommand slot session command seat reply after =
    IsAnswered slot session command seat reply after
    ⊎ IsNoSlot slot session seat reply after
    ⊎ IsNotAsked slot seat reply after
