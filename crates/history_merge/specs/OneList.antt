-- One list of events, of which the policy list, the slots' journals and the seats' receipts are the parts (this
-- project's own form).
use Rattle.std.specs.Prelude.{◌≡◌, ℕ, ◌+◌, List, [], ◌∷◌, Option, Some, None, drop}
use Rattle.rbac_policy.specs.declared.commands.Entry.{Entry}
use Rattle.reactor_core.specs.declared.entry.SlotEntry.{SlotEntry}
use Rattle.reactor_core.specs.Meaning.{word_of, signal_of}
use Rattle.history_receipts.specs.declared.receipt.SlotReceipt.{SlotReceipt}
use Rattle.history_receipts.specs.declared.receipt.Kept.{Kept}
use Rattle.rbac_policy.specs.declared.sizes.TheConstants.{OPENING_ENTRIES}
use Rattle.history_merge.specs.declared.order.Rank.TheVariants as rank
use Rattle.history_merge.specs.Order.{part_at, IsOver, InOrder}
use Rattle.history_merge.specs.ToldCalls.{ToldCall, of_seat, of_policy, of_slot}

-- the receipt is one of this entry: it tells its version, its session, its word and the signal of an offer
pub record Tells (r : SlotReceipt) (e : SlotEntry) : Type 0 where
  pub version : r.version ≡ e.stamp.version
  pub session : r.session ≡ e.stamp.session
  pub word : r.word ≡ word_of e.done
  pub signal : r.signal ≡ signal_of e.done

-- receipts and entries match one for one: places go up by one from here, and numbers rise
abbrev pub Tell : (place : ℕ) → (number : Option ℕ) → List SlotReceipt → List SlotEntry → Type 0
Tell place number [] [] = Unit {0}
Tell place number [] (e ∷ es) = ⊥
Tell place number (r ∷ rs) [] = ⊥
Tell place number (r ∷ rs) (e ∷ es) =
    (r.place ≡ place + 1) × Tells r e × IsOver number r.number × Tell (place + 1) (Some r.number) rs es

-- the events, in their order, have these parts: their policy entries are those of the policy list after the opening
-- ones, the receipts of each slot's commands tell its journal place by place, and those of each seat are what the seat
-- keeps
pub record HasParts (policy : List Entry) (journals : List (List SlotEntry)) (seats : List (List Kept))
    (events : List ToldCall) : Type 0 where
  pub published : of_policy events ≡ drop OPENING_ENTRIES policy
  pub told : (slot : ℕ) → Tell 0 None (of_slot slot events) (part_at journals slot)
  pub kept : (seat : ℕ) → of_seat seat events ≡ part_at seats seat
  pub order : InOrder (rank.Entry OPENING_ENTRIES) events

-- there is one list of events, of which the policy list, the journals and the seats' receipts are the parts. So each
-- entry of a slot, and each policy entry after the opening ones, was asked for by one call of one seat, and each
-- receipt is that of one entry
abbrev pub AreOfOneList : (policy : List Entry) → (journals : List (List SlotEntry)) → (seats : List (List Kept))
    → Type 0
AreOfOneList policy journals seats = (events : List ToldCall) × HasParts policy journals seats events
