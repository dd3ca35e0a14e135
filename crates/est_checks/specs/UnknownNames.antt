-- Names that aren't visible where they are used (this project's own form, after Berry, The Esterel v5 Language Primer).
use Rattle.std.specs.Prelude.{ℕ, List, Bool, not, ◌||◌, Option, Some, None, option_map, if◌then◌else◌}
use Rattle.std.specs.Option.{option_or}
use Rattle.std.specs.List.{find}
use Rattle.est_syntax.specs.Tree.{RenamingTree}
use Rattle.est_modules.specs.Occurrences.{Binder, Act, emits, tests, exits, binds, runs, Occurrence}
use Rattle.est_modules.specs.Modules.{Program, program_named}
use Rattle.est_modules.specs.Renamings.{is_renamed}
use Rattle.est_modules.specs.declared.interface.Declared.{Declared}
use Rattle.est_modules.specs.Visible.{is_visible, is_trap}

-- the name unless the test holds
abbrev pub unless : Bool → List ℕ → Option (List ℕ)
unless b n = if b then None else Some n

-- the interface name of a module that is run is neither renamed nor visible
unfoldable pub is_unbound : Program → List Binder → List RenamingTree → List ℕ → Bool
is_unbound p bs rs s = not (is_renamed rs s || is_visible p bs s)

-- the left name of the first renaming where it isn't visible
abbrev pub unknown_renaming : Program → List Binder → List RenamingTree → Option (List ℕ)
unknown_renaming p bs rs = option_map (λ (r : RenamingTree). r.outer)
    (find (λ (r : RenamingTree). not (is_visible p bs r.outer)) rs)

-- that, or else the first interface name of the module that is run which is neither renamed nor visible
abbrev pub unknown_in_run : Program → List Binder → List RenamingTree → Option Program → Option (List ℕ)
unknown_in_run p bs rs None = unknown_renaming p bs rs
unknown_in_run p bs rs (Some q) = option_or (unknown_renaming p bs rs)
    (option_map (λ (d : Declared). d.name) (find (λ (d : Declared). is_unbound p bs rs d.name) q.interface))

-- the name that isn't known at an occurrence in the module p
abbrev pub unknown_act : List Program → Program → List Binder → Act → Option (List ℕ)
unknown_act ps p bs (emits s) = unless (is_visible p bs s) s
unknown_act ps p bs (tests s) = unless (is_visible p bs s) s
unknown_act ps p bs (exits t) = unless (is_trap bs t) t
unknown_act ps p bs (binds ns) = None
unknown_act ps p bs (runs m rs) = unknown_in_run p bs rs (program_named ps m)

-- the same of an occurrence
abbrev pub unknown_at : List Program → Program → Occurrence → Option (List ℕ)
unknown_at ps p o = unknown_act ps p o.around o.act
