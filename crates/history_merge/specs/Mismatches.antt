-- What a mismatch says (this project's own form).
use Rattle.std.specs.Prelude.{◌≡◌, ◌≢◌, ◌⊎◌, ℕ, ◌+◌, ◌-◌, ◌<◌, ◌≤◌, ◌==◌, List, [], ◌∷◌, Some, None, if◌then◌else◌}
use Rattle.std.specs.Prelude.{slice_get, take, length, flat_map}
use Rattle.rbac_policy.specs.declared.commands.Entry.{Entry}
use Rattle.rbac_policy.specs.declared.objects.TheConstants.{SLOTS}
use Rattle.reactor_core.specs.declared.entry.SlotEntry.{SlotEntry}
use Rattle.history_receipts.specs.declared.mismatch.TheConstants.{POLICY_LIST}
use Rattle.history_receipts.specs.declared.mismatch.Mismatch.{Mismatch}
use Rattle.history_receipts.specs.declared.mismatch.Mismatch.TheVariants.{Count, Receipt}
use Rattle.history_receipts.specs.declared.receipt.SlotReceipt.{SlotReceipt}
use Rattle.history_receipts.specs.declared.receipt.Kept.{Kept}
use Rattle.history_receipts.specs.declared.receipt.Kept.TheVariants.{Admin, Slot}
use Rattle.rbac_policy.specs.declared.sizes.TheConstants.{OPENING_ENTRIES}
use Rattle.history_merge.specs.Order.{part_at, Rises}
use Rattle.history_merge.specs.OneList.{Tells}

-- what a seat keeps of this slot
abbrev pub kept_of_slot : (slot : ℕ) → List Kept → List Kept
kept_of_slot k [] = []
kept_of_slot k (Admin version entry ∷ ks) = kept_of_slot k ks
kept_of_slot k (Slot r ∷ ks) = if r.slot == k then Slot r ∷ kept_of_slot k ks else kept_of_slot k ks

-- what a seat keeps of the policy list
abbrev pub kept_of_policy : List Kept → List Kept
kept_of_policy [] = []
kept_of_policy (Admin version entry ∷ ks) = Admin version entry ∷ kept_of_policy ks
kept_of_policy (Slot r ∷ ks) = kept_of_policy ks

-- the entry that the receipt tells stands in its place: that of a policy command after the opening entries, at its
-- version; and that of a slot command in the journal of its slot, where its version is one that the policy list has had
-- since it was opened
abbrev pub IsThere : (policy : List Entry) → (journals : List (List SlotEntry)) → Kept → Type 0
IsThere policy journals (Admin version entry) =
    (OPENING_ENTRIES < version) × (slice_get policy (version - 1) ≡ Some entry)
IsThere policy journals (Slot r) =
    (r.slot < SLOTS) × (0 < r.place)
    × ((entry : SlotEntry) × (slice_get (part_at journals r.slot) (r.place - 1) ≡ Some entry) × Tells r entry)
    × (OPENING_ENTRIES ≤ r.version) × (r.version ≤ length policy)

-- up to here the seat's receipts rise, and with this one they don't
pub record Breaks (ks : List Kept) (n : ℕ) : Type 0 where
  pub below : n < length ks
  pub before : Rises 0 None (take n ks)
  pub not : Rises 0 None (take (n + 1) ks) → ⊥

-- places and numbers rise from one to the other, and versions don't fall
pub record IsBelow (r q : SlotReceipt) : Type 0 where
  pub place : r.place < q.place
  pub version : r.version ≤ q.version
  pub number : r.number < q.number

-- the two have one place, or their numbers and versions break the order of their places
abbrev pub Clash : Kept → Kept → Type 0
Clash (Admin v d) (Admin w e) = v ≡ w
Clash (Admin v d) (Slot q) = ⊥
Clash (Slot r) (Admin w e) = ⊥
Clash (Slot r) (Slot q) = (r.slot ≡ q.slot) × (IsBelow r q → ⊥) × (IsBelow q r → ⊥)

-- the receipt, which this seat keeps at this place of its list, clashes with another one
pub record Clashes (seats : List (List Kept)) (seat n : ℕ) (kept : Kept) : Type 0 where
  pub keeper : ℕ
  pub place : ℕ
  pub other : Kept
  pub here : slice_get (part_at seats keeper) place ≡ Some other
  pub another : (keeper ≢ seat) ⊎ (place ≢ n)
  pub clash : Clash other kept

-- its entry isn't there; or it is the first of its seat with which versions fall, don't rise at a policy command, or
-- numbers don't rise; or it clashes with another
abbrev pub IsFault : (policy : List Entry) → (journals : List (List SlotEntry)) → (seats : List (List Kept))
    → (seat n : ℕ) → Kept → Type 0
IsFault policy journals seats seat n kept =
    (IsThere policy journals kept → ⊥)
    ⊎ (Breaks (part_at seats seat) n
    ⊎ Clashes seats seat n kept)

-- the mismatch that names the receipt; of the policy list the place is the version
abbrev pub mismatch_of : (seat : ℕ) → Kept → Mismatch
mismatch_of seat (Admin version entry) = Receipt seat POLICY_LIST version
mismatch_of seat (Slot r) = Receipt seat r.slot r.place

-- the mismatch names a receipt that is at fault
pub record ReceiptFails (policy : List Entry) (journals : List (List SlotEntry)) (seats : List (List Kept))
    (mismatch : Mismatch) : Type 0 where
  pub seat : ℕ
  pub n : ℕ
  pub kept : Kept
  pub here : slice_get (part_at seats seat) n ≡ Some kept
  pub named : mismatch ≡ mismatch_of seat kept
  pub fault : IsFault policy journals seats seat n kept

-- the mismatch names a slot that has not as many entries as there are receipts of it, or the policy list, which has not
-- as many
abbrev pub CountDiffers : (policy : List Entry) → (journals : List (List SlotEntry)) → (seats : List (List Kept))
    → Mismatch → Type 0
CountDiffers policy journals seats mismatch =
    ((k : ℕ) × (k < SLOTS) × (mismatch ≡ Count k)
    × (length (flat_map (kept_of_slot k) seats) ≢ length (part_at journals k)))
    ⊎ ((mismatch ≡ Count POLICY_LIST) × (OPENING_ENTRIES + length (flat_map kept_of_policy seats) ≢ length policy))

-- the mismatch is justified: it names a receipt that is at fault, or a list that has not as many entries as there are
-- receipts of it
abbrev pub IsMismatch : (policy : List Entry) → (journals : List (List SlotEntry)) → (seats : List (List Kept))
    → Mismatch → Type 0
IsMismatch policy journals seats mismatch =
    CountDiffers policy journals seats mismatch ⊎ ReceiptFails policy journals seats mismatch
