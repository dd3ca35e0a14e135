-- Pieces of the lines that are joined from constant texts: private to them.
use Rattle.std.specs.Prelude.{ℕ, List, ◌++◌, codes, decimal, if◌then◌else◌}
use Rattle.reactor_core.specs.declared.entry.SlotWord.{SlotWord}
use Rattle.reactor_core.specs.Meaning.{is_step}

-- the line of a command that added an entry, up to its word: of a step it begins with the number of the instant
abbrev pub added_begin : SlotWord → (instants : ℕ) → List ℕ
added_begin asked instants =
    if is_step asked then (codes "{\"instant\":" ++ decimal instants) ++ codes ",\"ok\":\"" else codes "{\"ok\":\""
