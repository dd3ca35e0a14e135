-- Modules that are run (The Esterel v5 Language Primer, `run`).
use Rattle.std.specs.Prelude.{ℕ, List, Option, Some, None}
use Rattle.est_modules.specs.Occurrences.{Act, emits, tests, exits, binds, runs, Occurrence}
use Rattle.est_modules.specs.Modules.{Program, program_named, first_in_bodies}

-- the name, where there is no module of it
abbrev pub unless_there : List ℕ → Option Program → Option (List ℕ)
unless_there m None = Some m
unless_there m (Some q) = None

-- the module that an act runs, where it isn't there
abbrev pub missing_act : List Program → Act → Option (List ℕ)
missing_act ps (emits s) = None
missing_act ps (tests s) = None
missing_act ps (exits t) = None
missing_act ps (binds ns) = None
missing_act ps (runs m rs) = unless_there m (program_named ps m)

-- the same of an occurrence, in whatever module
abbrev pub missing_at : List Program → Program → Occurrence → Option (List ℕ)
missing_at ps p o = missing_act ps o.act

-- the main module where it isn't there; else the first that is run and isn't there
abbrev pub missing_from : List Program → List ℕ → Option Program → Option (List ℕ)
missing_from ps main None = Some main
missing_from ps main (Some q) = first_in_bodies (missing_at ps) ps

-- the first module that is asked for and isn't there
abbrev pub first_missing : List Program → List ℕ → Option (List ℕ)
first_missing ps main = missing_from ps main (program_named ps main)
