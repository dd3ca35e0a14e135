-- What has been noted of what a module emits: the numbers of names (this project's own form).
use Rattle.std.specs.Prelude.{ℕ, List, Bool, false, ◌&&◌, ◌||◌, Option, Some, None}
use Rattle.std.specs.List.{list_any}
use Rattle.std.specs.Str.{bytes_eq}
use Rattle.est_syntax.specs.Tree.{RenamingTree}
use Rattle.est_modules.specs.Modules.{Program, is_declared}
use Rattle.est_modules.specs.NamedNumbers.{is_number_of}
use Rattle.est_modules.specs.NumberSets.{numbers_of}
use Rattle.est_modules.specs.Occurrences.{Occurrence}
use Rattle.est_modules.specs.Renamings.{renamed}
use Rattle.est_modules.specs.declared.names.table.NameTable.{NameTable}
use Rattle.est_modules.specs.declared.names.set.NumberSet.{NumberSet}
use Rattle.est_checks.specs.Emissions.{emits_here}

-- the number of a name, if it has one, is noted
abbrev pub is_noted : NumberSet → Option ℕ → Bool
is_noted noted None = false
is_noted noted (Some i) = numbers_of noted i

-- the module that is run emits the signal that a renaming names
abbrev pub emits_inner : (List ℕ → List ℕ → Bool) → Program → RenamingTree → Bool
emits_inner emitted q r = is_declared q.interface r.inner && emitted q.name r.inner

-- one of these renamings, among those of a run, binds to the name what the module that is run emits
abbrev pub emits_renamed : (List ℕ → List ℕ → Bool) → Program → List RenamingTree → List RenamingTree → List ℕ → Bool
emits_renamed emitted q rs some s =
    list_any (λ (r : RenamingTree). emits_inner emitted q r && bytes_eq (renamed rs r.inner) s) some

-- what is noted after an occurrence: also the number of a name that it emits
abbrev pub noted_after : List Program → (List ℕ → List ℕ → Bool) → NameTable → (ℕ → Bool) → Occurrence → ℕ → Bool
noted_after ps emitted t noted o i = noted i || is_number_of t (λ s. emits_here ps emitted s o) i
