-- Entries and receipts belong to each other one by one (this project's own form).
use Rattle.std.specs.Prelude.{◌≡◌, ℕ, ◌+◌, List, Some, slice_get, drop}
use Rattle.rbac_policy.specs.declared.commands.Entry.{Entry}
use Rattle.reactor_core.specs.declared.entry.SlotEntry.{SlotEntry}
use Rattle.history_receipts.specs.declared.receipt.Kept.{Kept}
use Rattle.history_receipts.specs.declared.receipt.Kept.TheVariants.{Admin, Slot}
use Rattle.rbac_policy.specs.declared.sizes.TheConstants.{OPENING_ENTRIES}
use Rattle.history_merge.specs.Order.{part_at}
use Rattle.history_merge.specs.Mismatches.{IsThere}

-- exactly one seat keeps such a receipt, exactly once
pub record ExactlyOne (seats : List (List Kept)) (Such : Kept → Type 0) : Type 0 where
  pub seat : ℕ
  pub n : ℕ
  pub kept : Kept
  pub here : slice_get (part_at seats seat) n ≡ Some kept
  pub such : Such kept
  pub only : (s m : ℕ) (other : Kept) → slice_get (part_at seats s) m ≡ Some other → Such other → (s ≡ seat) × (m ≡ n)

-- the receipt is of this place of this slot, counted from 1
abbrev pub IsOfPlace : (slot place : ℕ) → Kept → Type 0
IsOfPlace slot place (Admin version entry) = ⊥
IsOfPlace slot place (Slot r) = (r.slot ≡ slot) × (r.place ≡ place)

-- the receipt is of the policy entry that made this version
abbrev pub IsOfVersion : (version : ℕ) → Kept → Type 0
IsOfVersion v (Admin version entry) = version ≡ v
IsOfVersion v (Slot r) = ⊥

-- each entry of a slot, and each policy entry after the opening ones, belongs by its place to exactly one receipt of
-- one seat; and the entry that a receipt tells stands in its place
pub record EachOnce (policy : List Entry) (journals : List (List SlotEntry)) (seats : List (List Kept)) : Type 0 where
  pub slots : (k i : ℕ) (e : SlotEntry) → slice_get (part_at journals k) i ≡ Some e
      → ExactlyOne seats (IsOfPlace k (i + 1))
  pub policy_entries : (i : ℕ) (e : Entry) → slice_get (drop OPENING_ENTRIES policy) i ≡ Some e
      → ExactlyOne seats (IsOfVersion (OPENING_ENTRIES + i + 1))
  pub receipts : (s n : ℕ) (kept : Kept) → slice_get (part_at seats s) n ≡ Some kept → IsThere policy journals kept
