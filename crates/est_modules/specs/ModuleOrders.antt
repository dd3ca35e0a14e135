-- Which modules each module of a library runs, and orders in which each stands after those (this project's own form).
use Rattle.std.specs.Prelude.{ℕ, List, [], map, Option}
use Rattle.std.specs.List.{position, flat_map}
use Rattle.std.specs.Option.{option_to_list}
use Rattle.std.specs.Str.{bytes_eq}
use Rattle.est_order.specs.PlaceOrders.{IsBottomUp}
use Rattle.est_modules.specs.Occurrences.{Act, emits, tests, exits, binds, runs, Occurrence, occurrences}
use Rattle.est_modules.specs.Modules.{Program}

-- the place of the first module of a name, if one has it
abbrev pub place_named : List Program → List ℕ → Option ℕ
place_named ps m = position (λ (p : Program). bytes_eq p.name m) ps

-- the place of the module that an act runs
abbrev pub place_run : List Program → Act → List ℕ
place_run ps (emits s) = []
place_run ps (tests s) = []
place_run ps (exits t) = []
place_run ps (binds ns) = []
place_run ps (runs m rs) = option_to_list (place_named ps m)

-- the places of the modules that a module runs, in the order of the text
abbrev pub places_run : List Program → Program → List ℕ
places_run ps p = flat_map (λ (o : Occurrence). place_run ps o.act) (occurrences [] p.body)

-- the same of each module
abbrev pub run_rows : List Program → List (List ℕ)
run_rows ps = map (places_run ps) ps

-- each module stands once in the order, after those that it runs
abbrev pub IsOrderOf : List Program → List ℕ → Type 0
IsOrderOf ps order = IsBottomUp (run_rows ps) order
