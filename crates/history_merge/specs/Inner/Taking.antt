-- How the receipts are taken, the first in order first (this project's own form).
use Rattle.std.specs.Prelude.{◌≡◌, ◌≢◌, ◌⊎◌, ℕ, ◌+◌, ◌<◌, List, Option, Some, None, MatchOption, replicate, slice_get}
use Rattle.std.specs.Prelude.{slice_index, slice_index_or, slice_set, length}
use Rattle.rbac_policy.specs.declared.commands.Entry.{Entry}
use Rattle.rbac_policy.specs.declared.objects.TheConstants.{SLOTS}
use Rattle.reactor_core.specs.declared.entry.SlotEntry.{SlotEntry}
use Rattle.history_receipts.specs.declared.mismatch.TheConstants.{POLICY_LIST}
use Rattle.history_receipts.specs.declared.mismatch.Mismatch.{Mismatch}
use Rattle.history_receipts.specs.declared.mismatch.Mismatch.TheVariants.{Count}
use Rattle.history_receipts.specs.declared.receipt.SlotReceipt.{SlotReceipt}
use Rattle.history_receipts.specs.declared.receipt.Kept.{Kept}
use Rattle.history_receipts.specs.declared.receipt.Kept.TheVariants.{Admin, Slot}
use Rattle.history_receipts.specs.declared.receipt_list.TheConstants.{SEATS}
use Rattle.rbac_policy.specs.declared.sizes.TheConstants.{OPENING_ENTRIES}
use Rattle.history_merge.specs.declared.merge.Taken.{Taken}
use Rattle.history_merge.specs.declared.order.Rank.{Rank}
use Rattle.history_merge.specs.declared.order.Rank.TheVariants as rank
use Rattle.history_merge.specs.Order.{part_at, rank_of, Precedes, IsOver}
use Rattle.history_merge.specs.Mismatches.{IsThere, Breaks, mismatch_of}

-- the last number in a slot
abbrev pub number_of : List (Option ℕ) → (slot : ℕ) → Option ℕ
number_of numbers k = slice_index_or numbers k None

-- one more receipt of the seat is read
abbrev pub read_on : List ℕ → (seat : ℕ) → List ℕ
read_on read seat = slice_set read seat (slice_index read seat + 1)

-- none is taken yet
abbrev pub none_taken : Taken
none_taken = record {
  last = rank.Entry OPENING_ENTRIES;
  entries = OPENING_ENTRIES;
  places = replicate SLOTS 0;
  numbers = replicate SLOTS None;
  counts = replicate SLOTS 0;
  read = replicate SEATS 0;
}

-- a policy entry of this version is taken
abbrev pub taken_entry : Taken → (seat version : ℕ) → Taken
taken_entry t seat version =
    record t { last = rank.Entry version; entries = t.entries + 1; read = read_on t.read seat }

-- a slot command is taken
abbrev pub taken_command : Taken → (seat : ℕ) → SlotReceipt → Taken
taken_command t seat r = record t {
  last = rank.Command r.version r.number r.slot;
  places = slice_set t.places r.slot r.place;
  numbers = slice_set t.numbers r.slot (Some r.number);
  counts = slice_set t.counts r.slot (slice_index t.counts r.slot + 1);
  read = read_on t.read seat;
}

-- the receipt of a seat that comes next
abbrev pub head : (seats : List (List Kept)) → (read : List ℕ) → (seat : ℕ) → Option Kept
head seats read s = slice_get (part_at seats s) (slice_index read s)

-- this is the next receipt of this seat, and no next receipt of the first `few` seats precedes it
pub record IsLeast (seats : List (List Kept)) (read : List ℕ) (few seat : ℕ) (kept : Kept) : Type 0 where
  pub inside : seat < few
  pub next : head seats read seat ≡ Some kept
  pub least : (s : ℕ) (other : Kept) → s < few → head seats read s ≡ Some other
      → Precedes (rank_of other) (rank_of kept) → ⊥

-- the least of them stands here
pub record StandsLeast (seats : List (List Kept)) (read : List ℕ) (few seat : ℕ) (here : Rank) : Type 0 where
  pub kept : Kept
  pub stands : rank_of kept ≡ here
  pub is : IsLeast seats read few seat kept

-- no receipt is left
abbrev pub AreAllRead : (seats : List (List Kept)) → (read : List ℕ) → (few : ℕ) → Type 0
AreAllRead seats read few = (s : ℕ) → s < few → head seats read s ≡ None

-- the seat among the first ones whose next receipt comes first, if one is left, and where that stands
abbrev pub LeastOf : (seats : List (List Kept)) → (read : List ℕ) → (few : ℕ) → Option (ℕ × Rank) → Type 0
LeastOf seats read few least = MatchOption least (AreAllRead seats read few) (λ p. StandsLeast seats read few p.0 p.1)

-- the next receipt of a seat takes the place of the least one, if it precedes that
abbrev pub Lesser : (least : Option (ℕ × Rank)) → (seat : ℕ) → (next : Option Rank) → (result : Option (ℕ × Rank))
    → Type 0
Lesser least seat None result = result ≡ least
Lesser None seat (Some k) result = result ≡ Some (seat, k)
Lesser (Some p) seat (Some k) result =
    ((result ≡ Some (seat, k)) × Precedes k p.1) ⊎ ((result ≡ Some p) × (Precedes k p.1 → ⊥))

-- place and number are over the last ones of the slot
abbrev pub IsInLine : Taken → SlotReceipt → Type 0
IsInLine t r = (slice_index t.places r.slot < r.place) × IsOver (number_of t.numbers r.slot) r.number

-- the receipt is taken
abbrev pub taken_after : Taken → (seat : ℕ) → Kept → Taken
taken_after t seat (Admin version entry) = taken_entry t seat version
taken_after t seat (Slot r) = taken_command t seat r

-- of a slot command, that it is in line
abbrev pub IsLined : Taken → Kept → Type 0
IsLined t (Admin version entry) = Unit {0}
IsLined t (Slot r) = IsInLine t r

-- the receipt is there, comes after the one that was taken last and is in line; and it is taken
pub record Takes (policy : List Entry) (journals : List (List SlotEntry)) (seat : ℕ) (kept : Kept)
    (old new : Taken) : Type 0 where
  pub there : IsThere policy journals kept
  pub follows : Precedes old.last (rank_of kept)
  pub lined : IsLined old kept
  pub after : new ≡ taken_after old seat kept

-- the receipt isn't there, or doesn't come after the one that was taken last, or is not in line
abbrev pub Refuses : (policy : List Entry) → (journals : List (List SlotEntry)) → Kept → Taken → Type 0
Refuses policy journals kept old =
    (IsThere policy journals kept → ⊥)
    ⊎ ((IsThere policy journals kept × (Precedes old.last (rank_of kept) → ⊥))
    ⊎ ((r : SlotReceipt) × (kept ≡ Slot r) × IsThere policy journals (Slot r) × Precedes old.last (rank_of (Slot r))
    × (IsInLine old r → ⊥)))

-- fewer policy entries were taken than the version of one that can come next
abbrev pub HasRoom : Taken → Type 0
HasRoom t = (version : ℕ) → Precedes t.last (rank.Entry version) → t.entries < version

-- as many were taken as there are entries
pub record AreCounted (policy : List Entry) (journals : List (List SlotEntry)) (t : Taken) : Type 0 where
  pub slots : (k : ℕ) → k < length journals → slice_index t.counts k ≡ length (part_at journals k)
  pub entries : t.entries ≡ length policy

-- not as many were taken as there are entries, of the list that the mismatch names
abbrev pub CountsDiffer : (policy : List Entry) → (journals : List (List SlotEntry)) → Taken → Mismatch → Type 0
CountsDiffer policy journals t m =
    ((k : ℕ) × (k < SLOTS) × (m ≡ Count k) × (slice_index t.counts k ≢ length (part_at journals k)))
    ⊎ ((m ≡ Count POLICY_LIST) × (t.entries ≢ length policy))

-- the mismatch names a receipt with which the order of its seat's list breaks
pub record IsBroken (seats : List (List Kept)) (m : Mismatch) : Type 0 where
  pub seat : ℕ
  pub n : ℕ
  pub kept : Kept
  pub here : slice_get (part_at seats seat) n ≡ Some kept
  pub named : m ≡ mismatch_of seat kept
  pub breaks : Breaks (part_at seats seat) n
