-- How a slot holds its journal (this project's own form).
use Rattle.std.specs.Prelude.{◌≡◌, List, true, false}
use Rattle.reactor_core.specs.declared.entry.SlotEntry.{SlotEntry}
use Rattle.reactor_core.specs.Meaning.{is_loaded}
use Rattle.access_core.specs.declared.slot.Content.{Content}
use Rattle.access_core.specs.declared.slot.Content.TheVariants.{Empty, Loaded}

-- the journal of what a slot holds
abbrev pub journal_of : Content → List SlotEntry
journal_of (Empty journal) = journal
journal_of (Loaded reactor) = reactor

-- a reactor is held exactly when the journal says that a module runs
abbrev pub IsHeldRight : Content → Type 0
IsHeldRight (Empty journal) = is_loaded journal ≡ false
IsHeldRight (Loaded reactor) = is_loaded reactor ≡ true
