-- The events of a server: calls of seats of which receipts tell, and which of them are one seat's, one slot's and the
-- policy's (this project's own form).
use Rattle.std.specs.Prelude.{ℕ, ◌==◌, List, [], ◌∷◌, if◌then◌else◌}
use Rattle.rbac_policy.specs.declared.commands.Entry.{Entry}
use Rattle.history_receipts.specs.declared.receipt.SlotReceipt.{SlotReceipt}
use Rattle.history_receipts.specs.declared.receipt.Kept.{Kept}
use Rattle.history_receipts.specs.declared.receipt.Kept.TheVariants.{Admin, Slot}

-- a call of this seat that added an entry: to the policy list, which then had this version, or to the journal of a slot
pub data ToldCall : Type 0 where
  Publishes : (seat version : ℕ) → Entry → ToldCall
  Commands : (seat : ℕ) → SlotReceipt → ToldCall

-- the receipt of the event
abbrev pub kept_of : ToldCall → Kept
kept_of (Publishes seat version entry) = Admin version entry
kept_of (Commands seat r) = Slot r

-- the receipts of this seat's events
abbrev pub of_seat : (seat : ℕ) → List ToldCall → List Kept
of_seat s [] = []
of_seat s (Publishes seat version entry ∷ es) = if seat == s then Admin version entry ∷ of_seat s es else of_seat s es
of_seat s (Commands seat r ∷ es) = if seat == s then Slot r ∷ of_seat s es else of_seat s es

-- the policy entries of the events
abbrev pub of_policy : List ToldCall → List Entry
of_policy [] = []
of_policy (Publishes seat version entry ∷ es) = entry ∷ of_policy es
of_policy (Commands seat r ∷ es) = of_policy es

-- the receipts of the commands on this slot
abbrev pub of_slot : (slot : ℕ) → List ToldCall → List SlotReceipt
of_slot k [] = []
of_slot k (Publishes seat version entry ∷ es) = of_slot k es
of_slot k (Commands seat r ∷ es) = if r.slot == k then r ∷ of_slot k es else of_slot k es
