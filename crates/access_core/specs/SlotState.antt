-- What a contract sees of a slot (this project's own form).
use Rattle.std.specs.Prelude.{ℕ, List}
use Rattle.reactor_core.specs.declared.entry.SlotEntry.{SlotEntry}

-- a slot: its number, and the journal of what was accepted in it, which says whether a module runs there
pub record SlotState : Type 0 where
  pub number : ℕ
  pub journal : List SlotEntry
