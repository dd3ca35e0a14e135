-- How the slots of a closing server end, one after the other (this project's own form).
use Rattle.std.specs.Prelude.{◌≡◌, ℕ, ◌+◌, List, [], ◌∷◌, IsNone}
use Rattle.reactor_core.specs.declared.entry.SlotEntry.{SlotEntry}
use Rattle.access_core.specs.Journals.{IsLegal}
use Rattle.slot_table.specs.Closing.{ClosingState}

-- the slot ended with this journal. The policy list stays; and where there is still no fault there was none, and the
-- journal is legal over the list
pub record Ends (slot : ℕ) (old : ClosingState) (journal : List SlotEntry) (new : ClosingState) : Type 0 where
  pub policy : new.policy ≡ old.policy
  pub legal : IsNone new.fault → IsNone old.fault × IsLegal old.policy slot journal

-- the slots from this number on ended with these journals, one after the other
pub data EndFrom : (slot : ℕ) → (old : ClosingState) → List (List SlotEntry) → (new : ClosingState) → Type 0 where
  all_ended : {slot : ℕ} {state : ClosingState} → EndFrom slot state [] state
  one_ended : {slot : ℕ} {old next new : ClosingState} {journal : List SlotEntry} {journals : List (List SlotEntry)}
      → Ends slot old journal next
      → EndFrom (slot + 1) next journals new → EndFrom slot old (journal ∷ journals) new
