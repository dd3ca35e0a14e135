-- What is left of a closed server, and why it may be refused (this project's own form).
use Rattle.std.specs.Prelude.{◌≡◌, ◌⊎◌, ℕ, ◌<◌, List, Option, None, length, map}
use Rattle.rbac_policy.specs.declared.commands.Entry.{Entry}
use Rattle.rbac_policy.specs.declared.objects.TheConstants.{SLOTS}
use Rattle.rbac_admin.specs.PolicyLists.{IsPolicyList}
use Rattle.reactor_core.specs.declared.entry.SlotEntry.{SlotEntry}
use Rattle.history_receipts.specs.declared.mismatch.TheConstants.{POLICY_LIST}
use Rattle.history_receipts.specs.declared.mismatch.Mismatch.{Mismatch}
use Rattle.history_receipts.specs.declared.mismatch.Mismatch.TheVariants.{Count}
use Rattle.history_receipts.specs.declared.receipt.Kept.{Kept}
use Rattle.history_merge.specs.Order.{part_at, Rises}
use Rattle.history_merge.specs.Mismatches.{IsMismatch}
use Rattle.policy_board.specs.SeatState.{SeatState}
use Rattle.access_core.specs.Journals.{IsLegal}

-- what the seats keep, each the list of its receipts
abbrev pub kept_of : List SeatState → List (List Kept)
kept_of seats = map (λ (s : SeatState). s.kept) seats

-- along the receipts of each seat versions never fall, they rise at a policy command, and the numbers of slot commands
-- rise
abbrev pub AllRise : (seats : List (List Kept)) → Type 0
AllRise seats = (seat : ℕ) → seat < length seats → Rises 0 None (part_at seats seat)

-- the journals of the slots are legal over the policy list
abbrev pub AreLegal : (policy : List Entry) → (slots : List (List SlotEntry)) → Type 0
AreLegal policy slots = (slot : ℕ) → slot < SLOTS → IsLegal policy slot (part_at slots slot)

-- the reader of some slot has seen more entries than the policy list has; over what it has seen the slot's journal is
-- legal
pub record IsOverseen (policy : List Entry) : Type 0 where
  pub slot : ℕ
  pub there : slot < SLOTS
  pub seen : List Entry
  pub more : length policy < length seen
  pub journal : List SlotEntry
  pub legal : IsLegal seen slot journal

-- the mismatch is the count of the policy list, of which some slot's reader has seen more
pub record IsReadersFault (policy : List Entry) (mismatch : Mismatch) : Type 0 where
  pub named : mismatch ≡ Count POLICY_LIST
  pub overseen : IsOverseen policy

-- the mismatch is one of the policy list, of the slots' legal journals and of what the seats keep
pub record IsHistoriesFault (policy : List Entry) (seats : List (List Kept)) (mismatch : Mismatch) : Type 0 where
  pub slots : List (List SlotEntry)
  pub sixteen : length slots ≡ SLOTS
  pub legal : AreLegal policy slots
  pub differs : IsMismatch policy slots seats mismatch

-- there is a policy list, and the mismatch is one of it with the slots' journals and the seats' receipts, or some
-- slot's reader has seen more of it
pub record IsJustified (seats : List (List Kept)) (mismatch : Mismatch) : Type 0 where
  pub policy : List Entry
  pub is_list : IsPolicyList policy
  pub fault : IsHistoriesFault policy seats mismatch ⊎ IsReadersFault policy mismatch

-- a closing server: its policy list, and the fault of a reader, if one has seen more of the list
pub record ClosingState : Type 0 where
  pub policy : List Entry
  pub fault : Option Mismatch
