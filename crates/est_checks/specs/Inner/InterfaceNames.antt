-- The interface names of a module that is run (this project's own form).
use Rattle.std.specs.Prelude.{ℕ, List, [], map, Option, Some, None}
use Rattle.est_modules.specs.Modules.{Program, program_named}
use Rattle.est_modules.specs.declared.interface.Declared.{Declared}

-- those of a module that is asked for by a name
abbrev pub names_in : Option Program → List (List ℕ)
names_in None = []
names_in (Some q) = map (λ (d : Declared). d.name) q.interface

-- the same of the module of a name
abbrev pub names_of : List Program → List ℕ → List (List ℕ)
names_of ps m = names_in (program_named ps m)
