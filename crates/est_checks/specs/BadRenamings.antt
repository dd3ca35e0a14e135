-- Renamings of a run that name no signal of the module that is run, or one twice (this project's own form, after Berry,
-- The Esterel v5 Language Primer, `run`).
use Rattle.std.specs.Prelude.{ℕ, List, Bool, not, ◌||◌, Option, Some, None, option_map, nat_lt, length, filter}
use Rattle.std.specs.List.{find}
use Rattle.std.specs.Str.{bytes_eq}
use Rattle.est_syntax.specs.Tree.{RenamingTree}
use Rattle.est_modules.specs.Occurrences.{Act, emits, tests, exits, binds, runs, Occurrence}
use Rattle.est_modules.specs.Modules.{Program, program_named, is_declared}

-- more than one renaming names this signal of the module that is run
abbrev pub is_renamed_twice : List RenamingTree → List ℕ → Bool
is_renamed_twice rs s = nat_lt 1 (length (filter (λ (r : RenamingTree). bytes_eq r.inner s) rs))

-- the right name of a renaming is no interface signal of the module that is run, or stands on the right twice
unfoldable pub is_misnamed : Program → List RenamingTree → List ℕ → Bool
is_misnamed q rs s = not (is_declared q.interface s) || is_renamed_twice rs s

-- the right name of the first such renaming
abbrev pub bad_in_run : List RenamingTree → Option Program → Option (List ℕ)
bad_in_run rs None = None
bad_in_run rs (Some q) = option_map (λ (r : RenamingTree). r.inner)
    (find (λ (r : RenamingTree). is_misnamed q rs r.inner) rs)

-- the same of an act
abbrev pub bad_act : List Program → Act → Option (List ℕ)
bad_act ps (emits s) = None
bad_act ps (tests s) = None
bad_act ps (exits t) = None
bad_act ps (binds ns) = None
bad_act ps (runs m rs) = bad_in_run rs (program_named ps m)

-- the same of an occurrence, in whatever module
abbrev pub bad_renaming_at : List Program → Program → Occurrence → Option (List ℕ)
bad_renaming_at ps p o = bad_act ps o.act
