-- What a contract sees of a slot under its lock (this project's own form).
use Rattle.std.specs.Prelude.{List}
use Rattle.rbac_policy.specs.declared.commands.Entry.{Entry}
use Rattle.reactor_core.specs.declared.entry.SlotEntry.{SlotEntry}

-- list: the policy list that the slot's own reader has seen. journal: what was accepted in the slot, which says whether
-- a module runs there
pub record LockedState : Type 0 where
  pub list : List Entry
  pub journal : List SlotEntry
