-- What a seat at a shared board and table is answered (this project's own form). Others change the policy and the slots
-- between its calls: so each answer is for some policy list, which begins with all that the seat knew and is no shorter
-- than its seen number.
use Rattle.std.specs.Prelude.{◌≡◌, ◌⊎◌, ℕ, max, List, [], ◌∷◌, ◌++◌, length, Option, Bool, Result, Ok, Err}
use Rattle.rbac_policy.specs.declared.commands.AdminCommand.{AdminCommand}
use Rattle.rbac_policy.specs.declared.commands.Entry.{Entry}
use Rattle.rbac_policy.specs.declared.objects.Object.{Object}
use Rattle.rbac_policy.specs.declared.objects.Operation.{Operation}
use Rattle.rbac_policy.specs.Facts.{May}
use Rattle.rbac_admin.specs.PolicyLists.{Begins, IsPolicyList}
use Rattle.access_core.specs.declared.reply.Reply.{Reply}
use Rattle.access_core.specs.declared.reply.Reply.TheVariants.{Refused, Check}
use Rattle.access_core.specs.Desk.{DeskState, AdminStep}
use Rattle.access_core.specs.SlotState.{SlotState}
use Rattle.policy_board.specs.declared.refusal.BoardRefusal.{BoardRefusal}
use Rattle.policy_board.specs.Reads.{AnswersFor}
use Rattle.policy_board.specs.SeatState.{SeatState}
use Rattle.history_receipts.specs.declared.receipt.Kept.TheVariants.{Admin}
use Rattle.slot_table.specs.Conversions.{refusal_of_board}
use Rattle.slot_table.specs.SlotCommands.{TableCommand}
use Rattle.client_loop.specs.Asking.{Ask, to_policy, to_slot, to_check}

-- the desk with this policy list and these slots
abbrev pub desk_with : List Entry → List SlotState → DeskState
desk_with entries slots = record { entries = entries; slots = slots }

-- the list stays, and so do the receipts of the seat; or the list has one entry more, whose receipt stands at the end
-- of the seat's, with the version of the policy with it
abbrev pub KeepsAdded : (old new : List Entry) → (seat after : SeatState) → Type 0
KeepsAdded old new seat after =
    ((new ≡ old) × (after.kept ≡ seat.kept))
    ⊎ ((entry : Entry) × (new ≡ old ++ entry ∷ []) × (after.kept ≡ seat.kept ++ Admin (length new) entry ∷ []))

-- under the admin lock there was a policy list that begins with all that the seat knew. On it the command is answered
-- as by a desk of one client, whatever the slots; the seat knows the list as it then is, and keeps the receipt of an
-- entry that was added
pub record IsAdministered (session : Option ℕ) (command : AdminCommand) (seat : SeatState) (given : Reply)
    (after : SeatState) : Type 0 where
  pub old : List Entry
  pub new : List Entry
  pub is_list : IsPolicyList old
  pub known : Begins seat.known old
  pub step : (slots : List SlotState) → AdminStep session command (desk_with old slots) given (desk_with new slots)
  pub seat_knows : after.known ≡ new
  pub seat_seen : after.seen ≡ max seat.seen (length new)
  pub seat_read : after.read ≡ seat.read
  pub seat_keeps : KeepsAdded old new seat after

-- the reply to a check that the board answered so
abbrev pub check_reply : Result Bool BoardRefusal → Reply
check_reply (Ok allowed) = Check allowed
check_reply (Err refusal) = Refused (refusal_of_board refusal)

-- whether the session may is answered for a policy list that the seat has read, or the read is refused
pub record IsCheckedAt (session : ℕ) (operation : Operation) (object : Object) (seat : SeatState) (given : Reply)
    (after : SeatState) : Type 0 where
  pub answer : Result Bool BoardRefusal
  pub asks : AnswersFor (λ entries. May entries session operation object) seat answer after
  pub replied : given ≡ check_reply answer

-- what a seat at a board and a table is answered to what it asks, and the seat afterwards
abbrev pub SharedAnswers : (before : SeatState) → Ask → Reply → (after : SeatState) → Type 0
SharedAnswers before (to_policy session command) given after = IsAdministered session command before given after
SharedAnswers before (to_slot session number command) given after =
    TableCommand number session command before given after
SharedAnswers before (to_check session operation object) given after =
    IsCheckedAt session operation object before given after
