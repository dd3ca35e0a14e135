-- The names that an act binds (this project's own form).
use Rattle.std.specs.Prelude.{ℕ, List, [], ◌∷◌}
use Rattle.est_modules.specs.Occurrences.{Act, emits, tests, exits, binds, runs}

-- those of a `signal`; no other act binds any
abbrev pub bound_by : Act → List (List ℕ)
bound_by (emits s) = []
bound_by (tests s) = []
bound_by (exits t) = []
bound_by (binds ns) = ns.first ∷ ns.later
bound_by (runs m rs) = []
