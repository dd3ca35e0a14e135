-- The modules that main runs, in an order.
use Rattle.std.proofs.Common.{◌≡◌, ℕ, ◌+◌, ◌<◌, ◌⊎◌, inl, inr, List, [], ◌∷◌, length, nat_lt, replicate, refl, ap}
use Rattle.std.proofs.Common.{slice_index, slice_index_or, slice_set, Bool, true, false, if◌then◌else◌, Some, Contains}
use Rattle.std.proofs.Common.{None, sym, ◌∙◌, subst, arith, rules}
use Rattle.std.proofs.lemmas.Bool.{cases_eq, cases_lt, false≢true}
use Rattle.std.proofs.lemmas.Option.{slice_get_within, slice_get-get_or, get_or_from_slice_get}
use Rattle.std.proofs.lemmas.List.{get_or-map, get_or-set_same, get_or-set_other, length-map, length-set}
use Rattle.std.proofs.lemmas.List.{length-replicate}
use Rattle.std.proofs.Math.ListN.{get_or-eq_default}
use Rattle.std.proofs.lemmas.List.Elements.{Contains-append_left, Contains-append_right, Contains-append_cases}
use Rattle.std.proofs.lemmas.List.Elements.{Contains-push, Contains-push_cases}
use Rattle.std.specs.List.{slice_get}
use Rattle.std.specs.Str.{bytes_eq}
use Rattle.est_checks.specs.RecursiveRuns.{HasRun}
use Rattle.est_checks.specs.MissingModules.{missing_at}
use Rattle.est_order.specs.PlaceSets.{IsIn}
use Rattle.est_link.specs.Inner.Needs.{with_place, with_places, IsComplete, IsCompleteFrom}
use Rattle.est_link.specs.Inner.Tables.{has_body, HasFront}
use Rattle.est_link.specs.declared.module_bodies.ModuleBodies.{ModuleBodies}
use Rattle.est_modules.specs.Modules.{Program, program_named, first_in_bodies}
use Rattle.est_modules.specs.Occurrences.{runs, Occurrence, occurrences, first_of}
use Rattle.est_modules.specs.ModuleOrders.{IsOrderOf, run_rows, places_run}
use Rattle.est_modules.proofs.Ordering.{IsRunOf, run_is_run}
use Rattle.est_modules.proofs.Testing.{some_same, same_bytes, found_passes}
use Rattle.est_order.specs.RunRows.{IsRun}
use Rattle.est_order.proofs.OrderPlaces.{each_stands, places_are_there}
use Rattle.est_modules.proofs.Standing.{first_none, found_place}
use Rattle.est_checks.proofs.RunsThere.{run_is_there}

-- ---- sets

-- what one place more adds to a set
record IsAdded (set : List Bool) (place : ℕ) (new : List Bool) : Type 0 where
  size : length new ≡ length set
  kept : (i : ℕ) → IsIn set i → IsIn new i
  added : place < length set → IsIn new place
  only : (i : ℕ) → IsIn new i → IsIn set i ⊎ (place ≡ i)

added_by : (set : List Bool) (place : ℕ) (b : Bool) → nat_lt place (length set) ≡ b
    → IsAdded set place (if b then slice_set set place true else set)
added_by set place true h =
    let within : place < length set = search (rules, h) in
    record {
      size = length-set set place true;
      kept = λ i is. elim (cases_eq i place) [
        | inl e ↦ subst (IsIn (slice_set set place true)) (sym e) (get_or-set_same set place true false within)
        | inr d ↦ get_or-set_other set place i true false d ∙ is
      ];
      added = λ lt. get_or-set_same set place true false lt;
      only = λ i is. elim (cases_eq i place)
          [ inl e ↦ inr (sym e) | inr d ↦ inl (sym (get_or-set_other set place i true false d) ∙ is) ];
    }
added_by set place false h =
    record {
      size = refl;
      kept = λ i is. is;
      added = λ lt. absurd (search (rules, h, lt));
      only = λ i is. inl is;
    }

added_one : (set : List Bool) (place : ℕ) → IsAdded set place (with_place set place)
added_one set place = added_by set place (nat_lt place (length set)) refl

-- what places add to a set
pub record AreAdded (set : List Bool) (places : List ℕ) : Type 0 where
  pub size : length (with_places set places) ≡ length set
  pub kept : (i : ℕ) → IsIn set i → IsIn (with_places set places) i
  pub added : (i : ℕ) → i < length set → Contains places i → IsIn (with_places set places) i
  pub only : (i : ℕ) → IsIn (with_places set places) i → IsIn set i ⊎ Contains places i

pub are_added : (set : List Bool) (places : List ℕ) → AreAdded set places
are_added set [] = record {
  size = refl;
  kept = λ i is. is;
  added = λ i lt has. absurd (omega (arith, has.1));
  only = λ i is. inl is;
}
are_added set (p ∷ ps) =
    let one = added_one set p in
    let rest = are_added (with_place set p) ps in
    record {
      size = rest.size ∙ one.size;
      kept = λ i is. rest.kept i (one.kept i is);
      added = λ i lt has. elim (Contains-append_cases (p ∷ []) ps i has) [
        | inl here ↦ (elim (Contains-push_cases [] p i here) [
          | inl none ↦ absurd (omega (arith, none.1))
          | inr e ↦ rest.kept i (subst (IsIn (with_place set p)) e (one.added (omega (arith, e, lt))))
        ])
        | inr later ↦ rest.added i (omega (arith, lt, one.size)) later
      ];
      only = λ i is. elim (rest.only i is) [
        | inl before ↦ (elim (one.only i before) [
          | inl old ↦ inl old
          | inr e ↦ inr (Contains-append_left (p ∷ []) ps i (subst (Contains (p ∷ [])) e (Contains-push [] p)))
        ])
        | inr later ↦ inr (Contains-append_right (p ∷ []) ps i later)
      ];
    }

-- the set of one place, in a row of n places
pub one_place : (n place : ℕ) → place < n → (length (slice_set (replicate n false) place true) ≡ n)
    × IsIn (slice_set (replicate n false) place true) place
one_place n place lt =
    let all : length (replicate n false) ≡ n = length-replicate n false in (
      length-set (replicate n false) place true ∙ all,
      get_or-set_same (replicate n false) place true false (omega (arith, lt, all)),
    )

-- ---- the set of what main runs

row_is : (ps : List Program) (i : ℕ) (p : Program) → slice_get ps i ≡ Some p
    → slice_index_or (run_rows ps) i [] ≡ places_run ps p
row_is ps i p at = get_or-map (places_run ps) ps i p [] (slice_get_within ps i p at)
    ∙ ap (places_run ps) (get_or_from_slice_get ps i p p at)

-- a module's runs are added
pub complete_more : (ps : List Program) (order : List ℕ) (set : List Bool) (k : ℕ) (p : Program) → IsOrderOf ps order
    → length set ≡ length ps → k < length order → slice_get ps (slice_index order k) ≡ Some p
    → IsCompleteFrom ps order (k + 1) set → IsCompleteFrom ps order k (with_places set (places_run ps p))
complete_more ps order set k p up size lt at complete i from within has to is =
    let now = are_added set (places_run ps p) in
    elim (cases_lt k i) [
      | inl later ↦ (elim (now.only (slice_index order i) has) [
        | inl old ↦ now.kept to (complete i (omega (arith, later)) within old to is)
        | inr new ↦
            let there : slice_index order i < length (run_rows ps) = places_are_there (run_rows ps) order up i within in
            let named : Contains (slice_index_or (run_rows ps) (slice_index order k) []) (slice_index order i) =
            subst (λ r. Contains r (slice_index order i)) (sym (row_is ps (slice_index order k) p at)) new in
            absurd (omega (arith, later, up.after_runs k i lt within (record { there = there; named = named })))
      ])
      | inr here ↦
          let same : i ≡ k = omega (arith, from, here) in
          let named : Contains (places_run ps p) to = subst (λ r. Contains r to)
          (ap (λ j. slice_index_or (run_rows ps) (slice_index order j) []) same ∙ row_is ps (slice_index order k) p at)
          is.named in
          now.added to (omega (arith, is.there, size, length-map ps (places_run ps))) named
    ]

-- a module that isn't needed adds nothing
pub complete_past : (ps : List Program) (order : List ℕ) (set : List Bool) (k : ℕ)
    → slice_index_or set (slice_index order k) false ≡ false → IsCompleteFrom ps order (k + 1) set
    → IsCompleteFrom ps order k set
complete_past ps order set k absent complete i from within has to is = elim (cases_lt k i) [
  | inl later ↦ complete i (omega (arith, later)) within has to is
  | inr here ↦
      let same : i ≡ k = omega (arith, from, here) in
      absurd (false≢true (sym absent ∙ subst (λ j. IsIn set (slice_index order j)) same has))
]

-- a set that is complete from the beginning of the order on is complete
pub complete_whole : (ps : List Program) (order : List ℕ) (set : List Bool) → IsOrderOf ps order
    → IsCompleteFrom ps order 0 set → IsComplete ps set
complete_whole ps order set up complete runner to has is = elim (cases_lt runner (length (run_rows ps))) [
  | inl there ↦
      let at = each_stands (run_rows ps) order up runner there in
      complete at.0 (omega arith) at.1 (subst (IsIn set) (sym at.2) has) to
      (subst (λ r. IsRun (run_rows ps) r to) (sym at.2) is)
  | inr past ↦
      let none : Contains [] to = subst (λ r. Contains r to) (get_or-eq_default (run_rows ps) [] past) is.named in
      absurd (omega (arith, none.1))
]

-- ---- what is made before a module

-- the bodies of the modules that the next one runs are there
run_made : (ps : List Program) (order : List ℕ) (set : List Bool) (t : ModuleBodies) (k : ℕ) (p : Program)
    → IsOrderOf ps order → IsComplete ps set → first_in_bodies (missing_at ps) ps ≡ None → HasFront ps set order k t
    → k < length order → IsIn set (slice_index order k) → slice_get ps (slice_index order k) ≡ Some p
    → (o : Occurrence) → Contains (occurrences [] p.body) o → (m : List ℕ) → IsRunOf o.act m → has_body t m ≡ true
run_made ps order set t k p up complete there front lt has at o stands m is_run =
    let body = first_none (λ (p : Program). first_of (missing_at ps p) (occurrences [] p.body)) ps
    (slice_index order k) p there at in
    let here : slice_get (occurrences [] p.body) stands.0 ≡ Some o =
    slice_get-get_or (occurrences [] p.body) stands.0 o stands.1 ∙ ap Some stands.2 in
    let found =
    run_is_there ps o.act m is_run (first_none (missing_at ps p) (occurrences [] p.body) stands.0 o body here) in
    let place = found_place (λ (p : Program). bytes_eq p.name m) ps found.0 found.1 in
    let leads = run_is_run ps (slice_index order k) place.0 p o m at stands is_run place.1 in
    let stood = each_stands (run_rows ps) order up place.0 leads.there in
    let before : stood.0 < k = up.after_runs k stood.0 lt stood.1
    (subst (λ r. IsRun (run_rows ps) (slice_index order k) r) (sym stood.2) leads) in
    let made =
    front stood.0 before (subst (IsIn set) (sym stood.2) (complete (slice_index order k) place.0 has leads))
    found.0 (ap (slice_get ps) stood.2 ∙ place.2) in
    ap (has_body t)
    (sym (same_bytes found.0.name m (found_passes (λ (p : Program). bytes_eq p.name m) ps found.0 found.1)))
    ∙ made

pub next_ready : (ps : List Program) (order : List ℕ) (set : List Bool) (t : ModuleBodies) (k : ℕ) (p : Program)
    → IsOrderOf ps order → IsComplete ps set → first_in_bodies (missing_at ps) ps ≡ None → HasFront ps set order k t
    → k < length order → IsIn set (slice_index order k) → slice_get ps (slice_index order k) ≡ Some p
    → program_named ps p.name ≡ Some p → (n : List ℕ) → HasRun ps p.name n → has_body t n ≡ true
next_ready ps order set t k p up complete there front lt has at named n run =
    let home : run.home ≡ p = some_same run.home p (sym run.there ∙ named) in
    let place : Occurrence = record { act = runs n run.renamings; around = run.around } in
    run_made ps order set t k p up complete there front lt has at place
    (subst (λ (q : Program). Contains (occurrences [] q.body) place) home run.stands) n refl
