-- Faults that checks find, one check after another.
use Rattle.std.proofs.Common.{◌≡◌, ℕ, ◌<◌, ◌⊎◌, inl, inr, List, [], length, map, get_or, Bool, true, false}
use Rattle.std.proofs.Common.{if◌then◌else◌, Option, Some, None, option_map, Result, Ok, Err, refl, ap, sym, ◌∙◌}
use Rattle.std.proofs.Common.{subst, arith}
use Rattle.std.proofs.lemmas.List.{get_or-map, length-map}
use Rattle.std.proofs.lemmas.Option.{none-some, slice_get_within, get_or_from_slice_get}
use Rattle.std.specs.List.{slice_get}
use Rattle.std.specs.Option.{option_or}
use Rattle.std.specs.Prelude.{IsTrue}
use Rattle.refusal_rules.specs.Rules.{AllPass, RefuseUnless, Refuses, Passes}
use Rattle.refusal_rules.proofs.RuleLemmas.{refuse, pass, all_passed}
use Rattle.est_text.specs.Identifiers.{is_identifier}
use Rattle.est_checks.specs.BadRenamings.{bad_renaming_at}
use Rattle.est_checks.specs.Duplicates.{first_duplicate}
use Rattle.est_checks.specs.Emissions.{AreEmissions, first_refused}
use Rattle.est_checks.specs.FirstFaults.{Check, Finds, IsFirstFault, IsFirstOf, IsFirstRefused}
use Rattle.est_checks.specs.FirstFaults.{IsLimitPassed, checks, module_limit_passed_by}
use Rattle.est_checks.specs.Inner.Recursion.{IsOrderFault}
use Rattle.est_checks.specs.Inner.Stages.{IsLimitFault, emission_checks, fault_of_emissions, fault_of_names}
use Rattle.est_checks.specs.Inner.Stages.{limit_checks, name_checks, run_checks}
use Rattle.est_checks.specs.LinkFaults.{fault_before_order, number_over_outputs}
use Rattle.est_checks.specs.LinkFaults.{misnamed_main}
use Rattle.est_modules.specs.Modules.{Program, program_named, first_in_bodies}
use Rattle.est_modules.specs.ModuleOrders.{places_run, run_rows}
use Rattle.est_checks.specs.MissingModules.{first_missing}
use Rattle.est_checks.specs.UnknownNames.{unknown_at}
use Rattle.est_checks.specs.declared.fault.LinkFault.{LinkFault}
use Rattle.est_checks.specs.declared.fault.LinkFault.TheVariants.{DuplicateName, MisnamedMain, UnknownModule}
use Rattle.est_checks.specs.declared.fault.LinkFault.TheVariants.{RecursiveRun, BadRename, UnknownName, EmitInput}
use Rattle.est_checks.specs.declared.fault.LinkFault.TheVariants.{Semantics, TooLarge, Memory}
use Rattle.est_checks.proofs.Chains.{first_itself, none_itself}
use Rattle.est_modules.proofs.Standing.{program_at}
use Rattle.est_modules.proofs.Testing.{map_none, or_none_parts}
use Rattle.est_order.specs.PlaceOrders.{NoneIsRecursive}

-- the name of the module at a place
pub name_there : (ps : List Program) (i : ℕ) (p : Program) → slice_get ps i ≡ Some p
    → p.name ≡ get_or (map (λ (q : Program). q.name) ps) i []
name_there ps i p at =
    sym (get_or-map (λ (q : Program). q.name) ps i p [] (slice_get_within ps i p at)
    ∙ ap (λ (q : Program). q.name) (get_or_from_slice_get ps i p p at))

-- an answer of later checks is one of all
pub finds_by : {T : Type 0} (P Q : Option LinkFault → Type 0) → ((found : Option LinkFault) → P found → Q found)
    → (answer : Result T LinkFault) → Finds P answer → Finds Q answer
finds_by P Q more (Ok t) h = more None h
finds_by P Q more (Err fault) (inl memory) = inl memory
finds_by P Q more (Err fault) (inr h) = inr (more (Some fault) h)

-- ---- one check after another

-- a check's fault is found, or what is found by those after it
step : {Found : Type 0} (fault : Found → LinkFault) (Is : Option Found → Type 0) (o : Option Found) → Is o
    → {Next : Type 0} (more r found : Option LinkFault) → option_or (option_map fault o) more ≡ r
    → ((f : LinkFault) → r ≡ Some f → found ≡ Some f) → (more ≡ r → Next)
    → Refuses (Check fault Is) (λ f. found ≡ Some f) ⊎ Passes (Check fault Is) Next
step fault Is None is more r found e told next = pass is (next e)
step fault Is (Some x) is more r found e told next = refuse (fault x) (x, refl, is) (told (fault x) (sym e))

-- the same of the last of the checks that are answered together
last : {Found : Type 0} (fault : Found → LinkFault) (Is : Option Found → Type 0) (o : Option Found) → Is o
    → {Next : Type 0} (r found : Option LinkFault) → option_map fault o ≡ r
    → ((f : LinkFault) → r ≡ Some f → found ≡ Some f) → (r ≡ None → Next)
    → Refuses (Check fault Is) (λ f. found ≡ Some f) ⊎ Passes (Check fault Is) Next
last fault Is None is r found e told next = pass is (next (sym e))
last fault Is (Some x) is r found e told next = refuse (fault x) (x, refl, is) (told (fault x) (sym e))

-- the name of the main module is no identifier, or what is found by those after it
named : (identifier : Bool) {Next : Type 0} (more r found : Option LinkFault)
    → option_or (if identifier then None else Some MisnamedMain) more ≡ r
    → ((f : LinkFault) → r ≡ Some f → found ≡ Some f) → (more ≡ r → Next)
    → Refuses (RefuseUnless (IsTrue identifier) MisnamedMain) (λ f. found ≡ Some f)
    ⊎ Passes (RefuseUnless (IsTrue identifier) MisnamedMain) Next
named true more r found e told next = pass refl (next e)
named false more r found e told next = refuse MisnamedMain (refl, λ never. cc) (told MisnamedMain (sym e))

-- ---- the stages

-- the check of limits
pub limits : (ps : List Program) (main : List ℕ) (found : Option LinkFault) → IsLimitFault ps main found
    → IsFirstOf (limit_checks ps main) found
limits ps main found h =
    last TooLarge (IsLimitPassed ps main) (module_limit_passed_by (program_named ps main) (h.counts main))
    (record { counts = h.counts; are = h.are; is = refl }) found found (sym h.is) (λ f e. e) (λ e. e)

emissions : (ps : List Program) (main : List ℕ) (em : List ℕ → List ℕ → Bool) → AreEmissions ps em
    → (r found : Option LinkFault) → fault_of_emissions ps main em ≡ r
    → ((f : LinkFault) → r ≡ Some f → found ≡ Some f) → (r ≡ None → IsFirstOf (limit_checks ps main) found)
    → IsFirstOf (emission_checks ps main) found
emissions ps main em are r found e told next =
    step EmitInput (IsFirstRefused ps) (first_refused ps em)
    (record { emitted = em; emissions = are; is = refl }) _ r found e told
    (λ e. last Semantics (λ number. number_over_outputs (program_named ps main) ≡ number)
    (number_over_outputs (program_named ps main)) refl r found e told next)

-- the checks of emissions and of relations find a fault
pub emissions_here : (ps : List Program) (main : List ℕ) (em : List ℕ → List ℕ → Bool) (fault : LinkFault)
    → AreEmissions ps em → Some fault ≡ fault_of_emissions ps main em
    → IsFirstOf (emission_checks ps main) (Some fault)
emissions_here ps main em fault are e =
    emissions ps main em are (Some fault) (Some fault) (sym e) (λ f same. same)
    (λ none. absurd (none-some fault (sym none)))

-- they find none, and the limits are asked
pub emissions_next : (ps : List Program) (main : List ℕ) (em : List ℕ → List ℕ → Bool) → AreEmissions ps em
    → None ≡ fault_of_emissions ps main em → (found : Option LinkFault) → IsLimitFault ps main found
    → IsFirstOf (emission_checks ps main) found
emissions_next ps main em are e found h =
    emissions ps main em are None found (sym e) (λ f some. absurd (none-some f some)) (λ none. limits ps main found h)

names : (ps : List Program) (main : List ℕ) (r found : Option LinkFault) → fault_of_names ps ≡ r
    → ((f : LinkFault) → r ≡ Some f → found ≡ Some f) → (r ≡ None → IsFirstOf (emission_checks ps main) found)
    → IsFirstOf (name_checks ps main) found
names ps main r found e told next =
    step BadRename (λ name. first_in_bodies (bad_renaming_at ps) ps ≡ name) (first_in_bodies (bad_renaming_at ps) ps)
    refl _ r found e told
    (λ e. last UnknownName (λ name. first_in_bodies (unknown_at ps) ps ≡ name) (first_in_bodies (unknown_at ps) ps)
    refl r found e told next)

-- the checks of renamings and of names find a fault
pub names_here : (ps : List Program) (main : List ℕ) (fault : LinkFault) → Some fault ≡ fault_of_names ps
    → IsFirstOf (name_checks ps main) (Some fault)
names_here ps main fault e =
    names ps main (Some fault) (Some fault) (sym e) (λ f same. same) (λ none. absurd (none-some fault (sym none)))

-- they find none, and emissions are asked
pub names_next : (ps : List Program) (main : List ℕ) → None ≡ fault_of_names ps → (found : Option LinkFault)
    → IsFirstOf (emission_checks ps main) found → IsFirstOf (name_checks ps main) found
names_next ps main e found h =
    names ps main None found (sym e) (λ f some. absurd (none-some f some)) (λ none. h)

-- no name is unknown then
pub names_known : (ps : List Program) → None ≡ fault_of_names ps → first_in_bodies (unknown_at ps) ps ≡ None
names_known ps e =
    map_none UnknownName (first_in_bodies (unknown_at ps) ps)
    (or_none_parts (option_map BadRename (first_in_bodies (bad_renaming_at ps) ps))
    (option_map UnknownName (first_in_bodies (unknown_at ps) ps)) (sym e)).1

-- a recursive module is found
pub runs_here : (ps : List Program) (main : List ℕ) (fault : LinkFault) → first_duplicate ps ≡ None
    → IsOrderFault ps fault → (fault ≡ Memory) ⊎ IsFirstOf (run_checks ps main) (Some fault)
runs_here ps main fault distinct (inl memory) = inl memory
runs_here ps main fault distinct (inr r) =
    let within : r.place < length ps = omega (arith, r.first.there, length-map ps (places_run ps)) in
    let at = program_at ps r.place within in
    inr (refuse fault (
      at.0.name,
      r.is ∙ ap RecursiveRun (sym (name_there ps r.place at.0 at.1)),
      first_itself ps distinct r.place r.first at.0 at.1,
    ) refl)

-- no module is recursive, and names are asked
pub runs_next : (ps : List Program) (main : List ℕ) → NoneIsRecursive (run_rows ps) → (found : Option LinkFault)
    → IsFirstOf (name_checks ps main) found → IsFirstOf (run_checks ps main) found
runs_next ps main none found h = pass (none_itself ps none) h

-- what names or limits find is found
pub runs_found : (ps : List Program) (main : List ℕ) → NoneIsRecursive (run_rows ps) → (fault : LinkFault)
    → (fault ≡ Memory) ⊎ IsFirstOf (name_checks ps main) (Some fault)
    → (fault ≡ Memory) ⊎ IsFirstOf (run_checks ps main) (Some fault)
runs_found ps main none fault (inl memory) = inl memory
runs_found ps main none fault (inr h) = inr (runs_next ps main none (Some fault) h)

first : (ps : List Program) (main : List ℕ) (r found : Option LinkFault) → fault_before_order ps main ≡ r
    → ((f : LinkFault) → r ≡ Some f → found ≡ Some f) → (r ≡ None → IsFirstOf (run_checks ps main) found)
    → IsFirstFault ps main found
first ps main r found e told next =
    step DuplicateName (λ name. first_duplicate ps ≡ name) (first_duplicate ps) refl _ r found e told
    (λ e. named (is_identifier main) _ r found e told
    (λ e. last UnknownModule (λ name. first_missing ps main ≡ name) (first_missing ps main) refl r found e told next))

-- the checks before the order find a fault
pub first_here : (ps : List Program) (main : List ℕ) (fault : LinkFault) → Some fault ≡ fault_before_order ps main
    → IsFirstFault ps main (Some fault)
first_here ps main fault e =
    first ps main (Some fault) (Some fault) (sym e) (λ f same. same) (λ none. absurd (none-some fault (sym none)))

-- the same, unless memory was refused
pub first_found : (ps : List Program) (main : List ℕ) (fault : LinkFault)
    → (fault ≡ Memory) ⊎ (Some fault ≡ fault_before_order ps main)
    → (fault ≡ Memory) ⊎ IsFirstFault ps main (Some fault)
first_found ps main fault (inl memory) = inl memory
first_found ps main fault (inr e) = inr (first_here ps main fault e)

-- they find none, and the order is asked
pub first_next : (ps : List Program) (main : List ℕ) → None ≡ fault_before_order ps main → (found : Option LinkFault)
    → IsFirstOf (run_checks ps main) found → IsFirstFault ps main found
first_next ps main e found h =
    first ps main None found (sym e) (λ f some. absurd (none-some f some)) (λ none. h)

-- what the order or later checks find is found; the name that they are asked for is that of the main module
pub first_later : (ps : List Program) (main name : List ℕ) → name ≡ main → None ≡ fault_before_order ps main
    → (fault : LinkFault) → (fault ≡ Memory) ⊎ IsFirstOf (run_checks ps name) (Some fault)
    → (fault ≡ Memory) ⊎ IsFirstFault ps main (Some fault)
first_later ps main name same none fault (inl memory) = inl memory
first_later ps main name same none fault (inr h) =
    inr (first_next ps main none (Some fault) (subst (λ m. IsFirstOf (run_checks ps m) (Some fault)) same h))

-- ---- what is known without a fault

-- each check lets pass
pub all_pass : (ps : List Program) (main : List ℕ) → IsFirstFault ps main None → AllPass (checks ps main)
all_pass ps main h =
    (all_passed (checks ps main) (λ fault. None ≡ Some fault) (None ≡ None) (λ fault e. none-some fault e) h).0

-- no name is declared twice
pub none_twice : (ps : List Program) (main : List ℕ) → None ≡ fault_before_order ps main → first_duplicate ps ≡ None
none_twice ps main e = map_none DuplicateName (first_duplicate ps)
    (or_none_parts (option_map DuplicateName (first_duplicate ps))
    (option_or (misnamed_main main) (option_map UnknownModule (first_missing ps main))) (sym e)).0
