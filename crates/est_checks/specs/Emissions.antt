-- Emissions of inputs (this project's own form).
use Rattle.std.specs.Prelude.{◌≡◌, ℕ, List, [], Bool, false, not, ◌||◌, ◌&&◌, Option, Some, None, option_map}
use Rattle.std.specs.Prelude.{if◌then◌else◌}
use Rattle.std.specs.Borrow.{Bor}
use Rattle.std.specs.BTreeMap.{get_by}
use Rattle.std.specs.Cmp.Lexicographic.{slice_cmp}
use Rattle.std.specs.List.{list_any, find}
use Rattle.std.specs.Ordering.{nat_cmp}
use Rattle.std.specs.Str.{bytes_eq}
use Rattle.est_syntax.specs.Tree.{RenamingTree}
use Rattle.est_modules.specs.Occurrences.{Binder, Act, emits, tests, exits, binds, runs, Occurrence, occurrences}
use Rattle.est_modules.specs.Modules.{Program, program_named, first_in_bodies}
use Rattle.est_modules.specs.Visible.{is_local, is_tick}
use Rattle.est_modules.specs.Renamings.{renamed}
use Rattle.est_modules.specs.Modules.{is_input}
use Rattle.est_modules.specs.declared.interface.Declared.{Declared}
use Rattle.est_modules.specs.NameSets.{has}
use Rattle.est_modules.specs.declared.names.set.NameSet.{NameSet}
use Rattle.est_checks.specs.declared.emission.Emissions.{Emissions}

-- the module that is run emits an interface name that means this name of the caller
abbrev pub emits_in_run : (List ℕ → List ℕ → Bool) → List ℕ → List RenamingTree → Option Program → Bool
emits_in_run emitted s rs None = false
emits_in_run emitted s rs (Some q) =
    list_any (λ (d : Declared). emitted q.name d.name && bytes_eq (renamed rs d.name) s) q.interface

-- an act emits the name: a statement does, or a run binds to it what the module that is run emits
abbrev pub emits_by : List Program → (List ℕ → List ℕ → Bool) → List ℕ → Act → Bool
emits_by ps emitted s (emits n) = bytes_eq n s
emits_by ps emitted s (runs m rs) = emits_in_run emitted s rs (program_named ps m)
emits_by ps emitted s _ = false

-- an act emits the name where no local signal hides it
abbrev pub emits_here : List Program → (List ℕ → List ℕ → Bool) → List ℕ → Occurrence → Bool
emits_here ps emitted s o = not (is_local o.around s) && emits_by ps emitted s o.act

-- what a module emits of the signals that its callers see: what some act of it emits where no local signal hides it
abbrev pub IsEmitted : List Program → (List ℕ → List ℕ → Bool) → Program → Type 0
IsEmitted ps emitted p = (s : List ℕ) → emitted p.name s ≡ list_any (emits_here ps emitted s) (occurrences [] p.body)

-- what each module of a library emits
abbrev pub AreEmissions : List Program → (List ℕ → List ℕ → Bool) → Type 0
AreEmissions ps emitted = (m : List ℕ) (p : Program) → program_named ps m ≡ Some p → IsEmitted ps emitted p

-- whether the module of a name emits a signal, by what each module emits
pub record IsEmissionOf (ps : List Program) (m s : List ℕ) (emits : Bool) : Type 0 where
  pub emitted : List ℕ → List ℕ → Bool
  pub emissions : AreEmissions ps emitted
  pub is : emitted m s ≡ emits

-- the name means an input or `tick` in p
unfoldable pub is_refused : Program → List Binder → List ℕ → Bool
is_refused p bs s = not (is_local bs s) && (is_input p.interface s || is_tick s)

-- the interface name is emitted by the module that is run, and bound to an input or to `tick`
unfoldable pub is_refused_in_run : (List ℕ → List ℕ → Bool) → Program → List Binder → List RenamingTree → List ℕ
    → List ℕ → Bool
is_refused_in_run emitted p bs rs m s = emitted m s && is_refused p bs (renamed rs s)

-- the caller's name for the first interface name of the module that is run for which that holds
abbrev pub refused_in_run : (List ℕ → List ℕ → Bool) → Program → List Binder → List RenamingTree → List ℕ
    → Option Program → Option (List ℕ)
refused_in_run emitted p bs rs m None = None
refused_in_run emitted p bs rs m (Some q) = option_map (λ (d : Declared). renamed rs d.name)
    (find (λ (d : Declared). is_refused_in_run emitted p bs rs m d.name) q.interface)

-- the emission that an act is refused for
abbrev pub refused_act : List Program → (List ℕ → List ℕ → Bool) → Program → List Binder → Act → Option (List ℕ)
refused_act ps emitted p bs (emits s) = if is_refused p bs s then Some s else None
refused_act ps emitted p bs (tests s) = None
refused_act ps emitted p bs (exits t) = None
refused_act ps emitted p bs (binds ns) = None
refused_act ps emitted p bs (runs m rs) = refused_in_run emitted p bs rs m (program_named ps m)

-- the same of an occurrence
abbrev pub refused_at : List Program → (List ℕ → List ℕ → Bool) → Program → Occurrence → Option (List ℕ)
refused_at ps emitted p o = refused_act ps emitted p o.around o.act

-- the first in a library
abbrev pub first_refused : List Program → (List ℕ → List ℕ → Bool) → Option (List ℕ)
first_refused ps emitted = first_in_bodies (refused_at ps emitted) ps

-- what a table says of a module
abbrev pub emitted_in : Option NameSet → List ℕ → Bool
emitted_in None s = false
emitted_in (Some signals) s = has signals s

-- the same of the module of a name
abbrev pub emitted_of : Emissions → List ℕ → List ℕ → Bool
emitted_of es m s = emitted_in (get_by (λ (k : Bor (List ℕ)). slice_cmp nat_cmp m k.now) es.modules) s
