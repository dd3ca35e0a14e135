-- A library of which no check has a fault.
use Rattle.std.proofs.Common.{◌≡◌, ℕ, zero, suc, ◌≤◌, List, [], ◌∷◌, ◌++◌, length, map, nat_lt, Bool, true, false}
use Rattle.std.proofs.Common.{if◌then◌else◌, Option, Some, None, refl, ap, sym, ◌∙◌}
use Rattle.std.proofs.lemmas.Bool.{ltb-false}
use Rattle.std.proofs.lemmas.Option.{none-some}
use Rattle.std.specs.List.{slice_get}
use Rattle.std.specs.Str.{bytes_eq}
use Rattle.est_kernel.specs.declared.interface.TheConstants.{MOST_SIGNALS}
use Rattle.est_link.specs.Bodies.{HasSoundNames}
use Rattle.est_checks.specs.Duplicates.{redeclared, redeclared_in, redeclared_at, duplicate_of, duplicate_after}
use Rattle.est_checks.specs.Duplicates.{first_duplicate}
use Rattle.est_modules.specs.Visible.{stands_in}
use Rattle.est_checks.specs.Emissions.{AreEmissions, first_refused, refused_at}
use Rattle.est_checks.specs.FirstFaults.{IsFirstFault, module_limit_passed, module_limit_passed_by}
use Rattle.est_kernel.specs.declared.limits.TheConstants.{MOST_STATEMENTS}
use Rattle.est_link.specs.Inner.Checked.{IsChecked, IsSoundMain}
use Rattle.est_checks.specs.LinkFaults.{number_over_outputs}
use Rattle.est_modules.specs.Modules.{Program, program_named, first_in_bodies}
use Rattle.est_modules.specs.Occurrences.{Occurrence, occurrences, first_of}
use Rattle.est_checks.specs.UnknownNames.{unknown_at}
use Rattle.est_checks.specs.declared.fault.ModuleLimit.{ModuleLimit}
use Rattle.est_checks.specs.declared.fault.ModuleLimit.TheVariants.{Signals, Relations, Statements}
use Rattle.est_modules.specs.declared.interface.Declared.{Declared}
use Rattle.est_checks.proofs.Finding.{all_pass}
use Rattle.est_checks.proofs.Uniqueness.{all_there}
use Rattle.est_link.proofs.Distinct.{kept_name}
use Rattle.est_modules.proofs.Standing.{first_none, found_place}
use Rattle.est_modules.proofs.Testing.{some_same, or_none_parts}
use Rattle.est_relations.specs.declared.relations.TheConstants.{MOST_RELATIONS}

-- ---- names

-- a check without a fault in all bodies has none in a module that is named
none_in : (f : Program → Occurrence → Option (List ℕ)) (ps : List Program) → first_in_bodies f ps ≡ None
    → (m : List ℕ) (p : Program) → program_named ps m ≡ Some p → first_of (f p) (occurrences [] p.body) ≡ None
none_in f ps h m p found =
    let place = found_place (λ (q : Program). bytes_eq q.name m) ps p found in
    first_none (λ (q : Program). first_of (f q) (occurrences [] q.body)) ps place.0 p h place.2

sound_names : (ps : List Program) (em : List ℕ → List ℕ → Bool) → AreEmissions ps em
    → first_in_bodies (unknown_at ps) ps ≡ None → first_refused ps em ≡ None → HasSoundNames ps em
sound_names ps em are known accepted = record {
  emissions = are;
  known = none_in (unknown_at ps) ps known;
  accepted = none_in (refused_at ps em) ps accepted;
}

-- ---- the main module

kept_limit : (b : Bool) (l : ModuleLimit) (o : Option ModuleLimit) → (if b then Some l else o) ≡ None
    → (b ≡ false) × (o ≡ None)
kept_limit true l o h = absurd (none-some l (sym h))
kept_limit false l o h = (refl, h)

within : (s r n : ℕ) → module_limit_passed s r n ≡ None → (s ≤ MOST_SIGNALS) × (r ≤ MOST_RELATIONS)
within s r n h =
    let statements : Option ModuleLimit = if nat_lt MOST_STATEMENTS n then Some Statements else None in
    let one =
    kept_limit (nat_lt MOST_SIGNALS s) Signals (if nat_lt MOST_RELATIONS r then Some Relations else statements) h in
    let two = kept_limit (nat_lt MOST_RELATIONS r) Relations statements one.1 in
    (ltb-false MOST_SIGNALS s one.0, ltb-false MOST_RELATIONS r two.0)

-- no signal of a module is declared twice
none_redeclared : (seen : List (List ℕ)) (ps : List Program) → duplicate_after seen ps ≡ None → (i : ℕ) (p : Program)
    → slice_get ps i ≡ Some p → redeclared [] (map (λ (d : Declared). d.name) p.interface) ≡ None
none_redeclared seen [] h i p at = absurd (none-some p at)
none_redeclared seen (q ∷ qs) h zero p at =
    let here = (or_none_parts (duplicate_of seen q) (duplicate_after (seen ++ q.name ∷ []) qs) h).0 in
    let inside = (kept_name (stands_in seen q.name) q.name (redeclared_in q) here).1 in
    ap (λ (r : Program). redeclared [] (map (λ (d : Declared). d.name) r.interface)) (sym (some_same q p at))
    ∙ (or_none_parts (redeclared [] (map (λ (d : Declared). d.name) q.interface))
    (first_of (redeclared_at q) (occurrences [] q.body)) inside).0
none_redeclared seen (q ∷ qs) h (suc i) p at =
    none_redeclared (seen ++ q.name ∷ []) qs
    (or_none_parts (duplicate_of seen q) (duplicate_after (seen ++ q.name ∷ []) qs) h).1 i p at

sound_main : (ps : List Program) (main : List ℕ) (n : ℕ) → first_duplicate ps ≡ None
    → number_over_outputs (program_named ps main) ≡ None → module_limit_passed_by (program_named ps main) n ≡ None
    → (p : Program)
    → program_named ps main ≡ Some p → IsSoundMain p
sound_main ps main n distinct lawful small p found =
    let place = found_place (λ (q : Program). bytes_eq q.name main) ps p found in
    let limits = within (length p.interface) (length p.relations) n
    (ap (λ o. module_limit_passed_by o n) (sym found) ∙ small) in
    record {
      signals = limits.0;
      relations = limits.1;
      distinct = none_redeclared [] ps distinct place.0 p place.2;
      lawful = ap number_over_outputs (sym found) ∙ lawful;
    }

-- ---- all checks

-- a library without a fault is sound
pub is_checked : (ps : List Program) (main : List ℕ) → IsFirstFault ps main None → IsChecked ps main
is_checked ps main h =
    let from_order = (all_pass ps main h).1.1.1 in
    let from_emissions = from_order.1.1.1 in
    let refused = from_emissions.0 in
    let limit = from_emissions.1.1.0 in
    let distinct = (all_pass ps main h).0 in
    record {
      distinct = distinct;
      there = all_there ps main h;
      emitted = refused.emitted;
      names = sound_names ps refused.emitted refused.emissions from_order.1.1.0 refused.is;
      home = sound_main ps main (limit.counts main) distinct from_emissions.1.0 limit.is;
    }
