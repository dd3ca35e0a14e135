-- What is known of the tables for what a module emits (this project's own form).
use Rattle.std.specs.Prelude.{◌≡◌, List, map}
use Rattle.est_modules.specs.Modules.{program_of}
use Rattle.est_modules.specs.declared.names.table.NameTable.{NameTable}
use Rattle.est_modules.specs.declared.names.kept.Kept.{Kept}
use Rattle.est_checks.specs.Emissions.{emitted_of}
use Rattle.est_checks.specs.Inner.EmittedNumbers.{AreEmittedNumbers}
use Rattle.est_checks.specs.declared.module_emissions.EmissionNotes.{EmissionNotes}

-- the walk's table of names is the visitor's, whose sets have, for each module, the numbers of the names that it emits
abbrev pub Keeps : EmissionNotes → NameTable → List Kept → Type 0
Keeps v t ks = (t ≡ v.names.now)
    × AreEmittedNumbers t (map program_of v.modules.now) (emitted_of v.table.now) v.numbers.now
