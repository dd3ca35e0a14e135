-- What a contract sees of a seat (this project's own form).
use Rattle.std.specs.Prelude.{◌≡◌, ℕ, List, []}
use Rattle.rbac_policy.specs.declared.commands.Entry.{Entry}
use Rattle.rbac_policy.specs.Opening.{opening_entries}
use Rattle.history_receipts.specs.declared.receipt.Kept.{Kept}

-- known: the longest policy list that the seat has read or was told of. read: the list that its own reader has read
-- last. seen: its seen number, the greatest version that it has seen. kept: the receipts of its calls, the oldest
-- first. room: how many receipts its list has memory for
pub record SeatState : Type 0 where
  pub known : List Entry
  pub read : List Entry
  pub seen : ℕ
  pub kept : List Kept
  pub room : ℕ

-- a new seat: it and its reader know the opening entries alone, and its seen number is 0; it has no receipt, and no
-- memory for one
abbrev pub new_seat : SeatState
new_seat = record { known = opening_entries; read = opening_entries; seen = 0; kept = []; room = 0 }

-- the receipts, and the room for them, stay as they were
abbrev pub KeepsReceipts : (old new : SeatState) → Type 0
KeepsReceipts old new = (new.kept ≡ old.kept) × (new.room ≡ old.room)
