-- How the receipts of a seat are kept (this project's own form).
use Rattle.std.specs.Prelude.{◌≡◌, ◌<◌, ◌≤◌, ℕ, [], ◌∷◌, ◌++◌, length}
use Rattle.history_receipts.specs.declared.receipt.Kept.{Kept}
use Rattle.history_receipts.specs.declared.receipt.Kept.TheVariants.{Slot}
use Rattle.history_receipts.specs.declared.receipt.SlotReceipt.{SlotReceipt}
use Rattle.policy_board.specs.SeatState.{SeatState}

-- the seat has memory for one receipt more
abbrev pub HasRoom : SeatState → Type 0
HasRoom seat = length seat.kept < seat.room

-- the receipt is added at the end of the seat's receipts, and nothing else of the seat changes
abbrev pub seat_keeping : SeatState → Kept → SeatState
seat_keeping seat kept = record seat { kept = seat.kept ++ kept ∷ [] }

-- the receipt has got a number, from 1 on, and the seat keeps it
pub record IsCounted (old : SeatState) (receipt : SlotReceipt) (new : SeatState) : Type 0 where
  pub number : ℕ
  pub from_one : 1 ≤ number
  pub kept : new ≡ seat_keeping old (Slot (record receipt { number = number }))
