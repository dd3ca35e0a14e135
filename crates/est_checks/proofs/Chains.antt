-- Chains of runs, by the names of modules and by their places.
use Rattle.std.proofs.Common.{◌≡◌, ℕ, inl, inr, List, [], ◌∷◌, slice_index_or, Option, Some}
use Rattle.std.proofs.Common.{None, option_to_list, Contains, refl, ap, sym, ◌∙◌, subst, arith}
use Rattle.std.proofs.lemmas.List.{length-map, get_or-map}
use Rattle.std.proofs.lemmas.List.Elements.{Contains-append_right, Contains-append_cases, Contains-push_cases}
use Rattle.std.proofs.lemmas.Option.{slice_get_within, get_or_from_slice_get}
use Rattle.std.specs.List.{flat_map, slice_get}
use Rattle.std.specs.Str.{bytes_eq}
use Rattle.est_syntax.specs.Tree.{RenamingTree}
use Rattle.est_checks.specs.Duplicates.{first_duplicate}
use Rattle.est_checks.specs.RecursiveRuns.{HasRun, LeadsTo, at_once, further, IsFirstOnItself}
use Rattle.est_checks.specs.RecursiveRuns.{IsFirstRecursion}
use Rattle.est_modules.specs.Modules.{Program, program_named}
use Rattle.est_modules.specs.ModuleOrders.{place_named, place_run, places_run, run_rows}
use Rattle.est_modules.specs.Occurrences.{Act, emits, tests, exits, binds, runs, Occurrence, occurrences}
use Rattle.est_order.specs.PlaceOrders.{IsFirstRecursive, NoneIsRecursive}
use Rattle.est_order.specs.RunRows.{IsRun, Leads, once, through}
use Rattle.est_order.proofs.OrderLemmas.{leads_there}
use Rattle.est_modules.proofs.Ordering.{run_is_run}
use Rattle.est_modules.proofs.Standing.{found_place, program_at}
use Rattle.est_modules.proofs.Testing.{place_passes, same_bytes, some_same}
use Rattle.est_checks.proofs.OneName.{first_of_name}
use Rattle.est_checks.proofs.EmittingAlong.{place_of_name}

-- ---- from names to places

-- a chain begins at a module that is there
begun : (ps : List Program) (m o : List ℕ) → LeadsTo ps m o → (p : Program) × (program_named ps m ≡ Some p)
begun ps m o (at_once run) = (run.home, run.there)
begun ps m o (further run later) = (run.home, run.there)

-- a run of a module at a place is a run of the place
placed : (ps : List Program) (m n : List ℕ) (i j : ℕ) → HasRun ps m n → place_named ps m ≡ Some i
    → place_named ps n ≡ Some j → IsRun (run_rows ps) i j
placed ps m n i j run at to =
    let here = found_place (λ (p : Program). bytes_eq p.name m) ps run.home run.there in
    subst (λ k. IsRun (run_rows ps) k j) (some_same here.0 i (sym here.1 ∙ at))
    (run_is_run ps here.0 j run.home (record { act = runs n run.renamings; around = run.around }) n here.2 run.stands
    refl to)

-- so a chain of runs leads from place to place
chain_placed : (ps : List Program) (m o : List ℕ) (i k : ℕ) → LeadsTo ps m o → place_named ps m ≡ Some i
    → place_named ps o ≡ Some k → Leads (run_rows ps) i k
chain_placed ps m o i k (at_once run) at to = once (placed ps m o i k run at to)
chain_placed ps m o i k (further {n = n} run later) at to =
    let next = begun ps n o later in
    let there = found_place (λ (p : Program). bytes_eq p.name n) ps next.0 next.1 in
    through (placed ps m n i there.0 run at there.1) (chain_placed ps n o there.0 k later there.1 to)

-- no module is recursive by its place, so none is by its name
pub none_itself : (ps : List Program) → NoneIsRecursive (run_rows ps) → IsFirstRecursion ps None
none_itself ps none m back =
    let home = begun ps m m back in
    let there = found_place (λ (p : Program). bytes_eq p.name m) ps home.0 home.1 in
    none there.0 (chain_placed ps m m there.0 there.0 back there.1 there.1)

-- ---- from places to names

-- what many give, one of them gives
given_by_one : {X A : Type 0} (f : X → List A) (xs : List X) (y : A) → Contains (flat_map f xs) y
    → (x : X) × Contains xs x × Contains (f x) y
given_by_one f [] y h = absurd (omega (arith, h.1))
given_by_one f (x ∷ xs) y h = elim (Contains-append_cases (f x) (flat_map f xs) y h) [
  | inl here ↦ (x, (0, omega arith, refl), here)
  | inr there ↦
      let later = given_by_one f xs y there in
      (later.0, Contains-append_right (x ∷ []) xs later.0 later.1, later.2)
]

only_one : (o : Option ℕ) (j : ℕ) → Contains (option_to_list o) j → o ≡ Some j
only_one None j h = absurd (omega (arith, h.1))
only_one (Some i) j h = elim (Contains-push_cases [] i j h) [
  | inl none ↦ absurd (omega (arith, none.1))
  | inr same ↦ ap Some same
]

-- the act that a place is noted for
act_noted : (ps : List Program) (act : Act) (j : ℕ) → Contains (place_run ps act) j
    → (n : List ℕ) × (rs : List RenamingTree) × (act ≡ runs n rs) × (place_named ps n ≡ Some j)
act_noted ps (emits s) j h = absurd (omega (arith, h.1))
act_noted ps (tests s) j h = absurd (omega (arith, h.1))
act_noted ps (exits t) j h = absurd (omega (arith, h.1))
act_noted ps (binds ns) j h = absurd (omega (arith, h.1))
act_noted ps (runs n rs) j h = (n, rs, refl, only_one (place_named ps n) j h)

-- a run of a place is a run of the module there
named : (ps : List Program) → first_duplicate ps ≡ None → (i j : ℕ) → IsRun (run_rows ps) i j → (p q : Program)
    → slice_get ps i ≡ Some p → slice_get ps j ≡ Some q → HasRun ps p.name q.name
named ps distinct i j is p q at to =
    let row : slice_index_or (run_rows ps) i [] ≡ places_run ps p =
    get_or-map (places_run ps) ps i p [] (slice_get_within ps i p at)
    ∙ ap (places_run ps) (get_or_from_slice_get ps i p p at) in
    let one = given_by_one (λ (o : Occurrence). place_run ps o.act) (occurrences [] p.body) j
    (subst (λ r. Contains r j) row is.named) in
    let noted = act_noted ps one.0.act j one.2 in
    let name : q.name ≡ noted.0 = same_bytes q.name noted.0
    (place_passes (λ (r : Program). bytes_eq r.name noted.0) ps j q noted.3 to) in
    record {
      home = p;
      there = first_of_name [] ps distinct i p at;
      renamings = noted.1;
      around = one.0.around;
      stands = subst (λ (a : Act). Contains (occurrences [] p.body) (record { act = a; around = one.0.around }))
          (noted.2 ∙ ap (λ n. runs n noted.1) (sym name)) one.1;
    }

-- so a chain of runs leads from module to module
chain_named : (ps : List Program) → first_duplicate ps ≡ None → (i k : ℕ) → Leads (run_rows ps) i k → (p q : Program)
    → slice_get ps i ≡ Some p → slice_get ps k ≡ Some q → LeadsTo ps p.name q.name
chain_named ps distinct i k (once is) p q at to = at_once (named ps distinct i k is p q at to)
chain_named ps distinct i k (through {b = j} is later) p q at to =
    let r = program_at ps j (omega (arith, is.there, length-map ps (places_run ps))) in
    further (named ps distinct i j is p r.0 at r.1) (chain_named ps distinct j k later r.0 q r.1 to)

-- no module is recursive by its name, so none is by its place
pub none_placed : (ps : List Program) → first_duplicate ps ≡ None → IsFirstRecursion ps None
    → NoneIsRecursive (run_rows ps)
none_placed ps distinct none place back =
    let p = program_at ps place (omega (arith, leads_there (run_rows ps) back, length-map ps (places_run ps))) in
    none p.0.name (chain_named ps distinct place place back p.0 p.0 p.1 p.1)

-- the first recursive module by places is that by names
pub first_itself : (ps : List Program) → first_duplicate ps ≡ None → (place : ℕ) → IsFirstRecursive (run_rows ps) place
    → (home : Program) → slice_get ps place ≡ Some home → IsFirstOnItself ps home.name
first_itself ps distinct place is home there = record {
  place = place;
  home = home;
  there = there;
  name = refl;
  recursive = chain_named ps distinct place place is.recursive home home there there;
  first = λ before p lt at back.
      let stands = place_of_name [] ps distinct before p at in
      is.first before lt (chain_placed ps p.name p.name before before back stands stands);
}
