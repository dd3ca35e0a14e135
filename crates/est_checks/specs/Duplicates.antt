-- Names that are declared a second time, and `tick`, which is declared already (this project's own form, after Berry,
-- The Esterel v5 Language Primer).
use Rattle.std.specs.Prelude.{ℕ, List, [], ◌∷◌, ◌++◌, map, ◌||◌, Option, Some, None, if◌then◌else◌}
use Rattle.std.specs.Option.{option_or}
use Rattle.est_modules.specs.Occurrences.{Act, emits, tests, exits, binds, runs, Occurrence, occurrences, first_of}
use Rattle.est_modules.specs.Modules.{Program}
use Rattle.est_modules.specs.Visible.{is_tick}
use Rattle.est_modules.specs.declared.interface.Declared.{Declared}
use Rattle.est_modules.specs.Visible.{stands_in}

-- the first of some signals that is `tick`, or stands before it in the list or among those seen before
abbrev pub redeclared : List (List ℕ) → List (List ℕ) → Option (List ℕ)
redeclared seen [] = None
redeclared seen (n ∷ ns) = if is_tick n || stands_in seen n then Some n else redeclared (seen ++ n ∷ []) ns

-- the same of the list of a `signal`
abbrev pub redeclared_act : Act → Option (List ℕ)
redeclared_act (emits s) = None
redeclared_act (tests s) = None
redeclared_act (exits t) = None
redeclared_act (binds ns) = redeclared [] (ns.first ∷ ns.later)
redeclared_act (runs m rs) = None

-- the same of an occurrence, in whatever module
abbrev pub redeclared_at : Program → Occurrence → Option (List ℕ)
redeclared_at p o = redeclared_act o.act

-- the first in a module: of its interface, or else in its body
abbrev pub redeclared_in : Program → Option (List ℕ)
redeclared_in p = option_or (redeclared [] (map (λ (d : Declared). d.name) p.interface))
    (first_of (redeclared_at p) (occurrences [] p.body))

-- the name of a module, where one of this name was seen before; else the first in the module
abbrev pub duplicate_of : List (List ℕ) → Program → Option (List ℕ)
duplicate_of seen p = if stands_in seen p.name then Some p.name else redeclared_in p

-- the first of these in modules, after modules of names seen before
abbrev pub duplicate_after : List (List ℕ) → List Program → Option (List ℕ)
duplicate_after seen [] = None
duplicate_after seen (p ∷ ps) = option_or (duplicate_of seen p) (duplicate_after (seen ++ p.name ∷ []) ps)

-- the first name of a library that is declared a second time, or `tick`, in the order of the text
abbrev pub first_duplicate : List Program → Option (List ℕ)
first_duplicate ps = duplicate_after [] ps
