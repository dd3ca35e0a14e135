-- Which interface names a module that is run emits (this project's own form).
use Rattle.std.specs.Prelude.{ℕ, List, [], Bool, map, filter, Option, Some, None}
use Rattle.est_modules.specs.Modules.{Program, program_named}
use Rattle.est_modules.specs.declared.interface.Declared.{Declared}

-- those of a module that is asked for by a name
abbrev pub names_emitted_in : (List ℕ → Bool) → Option Program → List (List ℕ)
names_emitted_in emitted None = []
names_emitted_in emitted (Some q) = filter emitted (map (λ (d : Declared). d.name) q.interface)

-- the same of the module of a name
abbrev pub names_emitted_by : List Program → (List ℕ → List ℕ → Bool) → List ℕ → List (List ℕ)
names_emitted_by ps emitted m = names_emitted_in (emitted m) (program_named ps m)
