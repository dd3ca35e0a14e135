-- A library has one first fault, or none.
use mathlib.Core.Path.{fun_ext}
use Rattle.std.proofs.Common.{◌≡◌, ℕ, ◌⊎◌, inl, inr, List, [], Bool, ◌&&◌, Option, Some}
use Rattle.std.proofs.Common.{None, option_map}
use Rattle.std.proofs.Common.{Contains, refl, ap, sym, ◌∙◌, subst, arith}
use Rattle.std.proofs.lemmas.Bool.{cases_lt}
use Rattle.std.proofs.lemmas.Option.{none-some, slice_get-get_or}
use Rattle.std.specs.List.{find, slice_get}
use Rattle.std.specs.Str.{bytes_eq}
use Rattle.refusal_rules.specs.Rules.{RefuseUnless, Refuses, Passes}
use Rattle.est_syntax.specs.Tree.{RenamingTree}
use Rattle.est_checks.specs.BadRenamings.{bad_renaming_at}
use Rattle.est_checks.specs.Counting.{AreCounts}
use Rattle.est_checks.specs.Duplicates.{first_duplicate}
use Rattle.est_checks.specs.Emissions.{AreEmissions, emits_here, first_refused, is_refused, is_refused_in_run}
use Rattle.est_checks.specs.Emissions.{refused_act, refused_in_run}
use Rattle.est_checks.specs.FirstFaults.{Check, IsFirstFault, IsFirstRefused, IsLimitPassed}
use Rattle.est_checks.specs.FirstFaults.{module_limit_passed_by}
use Rattle.est_modules.specs.Modules.{Program, program_named, first_in_bodies}
use Rattle.est_modules.specs.Occurrences.{Binder, Act, emits, tests, exits, binds, runs, Occurrence, occurrences}
use Rattle.est_modules.specs.Occurrences.{first_of}
use Rattle.est_modules.specs.ModuleOrders.{run_rows}
use Rattle.est_modules.specs.Renamings.{renamed}
use Rattle.est_checks.specs.MissingModules.{first_missing, missing_at}
use Rattle.est_checks.specs.LinkFaults.{number_over_outputs}
use Rattle.est_checks.specs.UnknownNames.{unknown_at}
use Rattle.est_checks.specs.RecursiveRuns.{IsFirstRecursion, RunsItself}
use Rattle.est_checks.specs.declared.fault.ModuleLimit.{ModuleLimit}
use Rattle.est_checks.specs.declared.fault.LinkFault.{LinkFault}
use Rattle.est_checks.specs.declared.fault.LinkFault.TheVariants.{DuplicateName, UnknownModule, RecursiveRun, BadRename}
use Rattle.est_checks.specs.declared.fault.LinkFault.TheVariants.{UnknownName, EmitInput, Semantics, TooLarge}
use Rattle.est_modules.specs.declared.interface.Declared.{Declared}
use Rattle.est_checks.proofs.Chains.{none_placed}
use Rattle.est_checks.proofs.Finding.{all_pass}
use Rattle.est_checks.proofs.Filling.{counted_same}
use Rattle.est_modules.proofs.Descending.{by_modules}
use Rattle.est_modules.proofs.Standing.{first_none, found_place}
use Rattle.est_checks.proofs.RunsThere.{run_is_there}
use Rattle.est_modules.proofs.Ordering.{IsRunOf}
use Rattle.est_checks.proofs.EmittingAlong.{same_any, same_here}
use Rattle.est_checks.proofs.RunsThere.{none_missing}
use Rattle.est_modules.proofs.Testing.{some_same, same_bytes, found_passes}
use Rattle.est_order.specs.PlaceOrders.{NoneIsRecursive}

-- ---- recursion

one_recursion : (ps : List Program) (a b : Option (List ℕ)) → IsFirstRecursion ps a → IsFirstRecursion ps b → a ≡ b
one_recursion ps None None h k = refl
one_recursion ps None (Some n) h k = absurd (h n k.recursive)
one_recursion ps (Some m) None h k = absurd (k m h.recursive)
one_recursion ps (Some m) (Some n) h k = elim (cases_lt h.place k.place) [
  | inl before ↦ absurd (k.first h.place h.home before h.there (subst (RunsItself ps) (sym h.name) h.recursive))
  | inr past ↦ (elim (cases_lt k.place h.place) [
    | inl later ↦ absurd (h.first k.place k.home later k.there (subst (RunsItself ps) (sym k.name) k.recursive))
    | inr there ↦
        let place : h.place ≡ k.place = omega (arith, past, there) in
        let home : h.home ≡ k.home = some_same h.home k.home (sym h.there ∙ ap (slice_get ps) place ∙ k.there) in
        ap Some (sym h.name ∙ ap (λ (p : Program). p.name) home ∙ k.name)
  ])
]

-- ---- emissions

one_emissions : (ps : List Program) (f g : List ℕ → List ℕ → Bool) → NoneIsRecursive (run_rows ps) → AreEmissions ps f
    → AreEmissions ps g → (m : List ℕ) (p : Program) → program_named ps m ≡ Some p → (s : List ℕ)
    → f p.name s ≡ g p.name s
one_emissions ps f g none f_is g_is = by_modules ps (λ m p. (s : List ℕ) → f p.name s ≡ g p.name s) none
    (λ m p found below s.
    f_is m p found s
    ∙ same_any (emits_here ps f s) (emits_here ps g s) (occurrences [] p.body)
    (λ o stands. same_here ps f g s o (λ k is_run q named t. below o stands k is_run q named t))
    ∙ sym (g_is m p found s))

one_emission : (ps : List Program) (f g : List ℕ → List ℕ → Bool) → NoneIsRecursive (run_rows ps) → AreEmissions ps f
    → AreEmissions ps g → (m : List ℕ) (p : Program) → program_named ps m ≡ Some p → (s : List ℕ) → f m s ≡ g m s
one_emission ps f g none f_is g_is m p found s =
    let name : p.name ≡ m = same_bytes p.name m (found_passes (λ (r : Program). bytes_eq r.name m) ps p found) in
    subst (λ n. f n s ≡ g n s) name (one_emissions ps f g none f_is g_is m p found s)

same_test : (f g : List ℕ → List ℕ → Bool) (p : Program) (bs : List Binder) (rs : List RenamingTree) (m s : List ℕ)
    → f m s ≡ g m s → is_refused_in_run f p bs rs m s ≡ is_refused_in_run g p bs rs m s
unfolding is_refused_in_run
same_test f g p bs rs m s e = ap (λ b. b && is_refused p bs (renamed rs s)) e

same_in_run : (f g : List ℕ → List ℕ → Bool) (p : Program) (bs : List Binder) (rs : List RenamingTree) (m : List ℕ)
    (o : Option Program) → ((q : Program) → o ≡ Some q → (s : List ℕ) → f m s ≡ g m s)
    → refused_in_run f p bs rs m o ≡ refused_in_run g p bs rs m o
same_in_run f g p bs rs m None h = refl
same_in_run f g p bs rs m (Some q) h =
    ap (λ (k : List ℕ → Bool). option_map (λ (d : Declared). renamed rs d.name)
    (find (λ (d : Declared). k d.name) q.interface)) (fun_ext (λ s. same_test f g p bs rs m s (h q refl s)))

same_act : (ps : List Program) (f g : List ℕ → List ℕ → Bool)
    → ((m : List ℕ) (q : Program) → program_named ps m ≡ Some q → (s : List ℕ) → f m s ≡ g m s)
    → (p : Program) (bs : List Binder) (act : Act) → refused_act ps f p bs act ≡ refused_act ps g p bs act
same_act ps f g h p bs (emits s) = refl
same_act ps f g h p bs (tests s) = refl
same_act ps f g h p bs (exits t) = refl
same_act ps f g h p bs (binds ns) = refl
same_act ps f g h p bs (runs m rs) = same_in_run f g p bs rs m (program_named ps m) (h m)

same_refused : (ps : List Program) (f g : List ℕ → List ℕ → Bool)
    → ((m : List ℕ) (q : Program) → program_named ps m ≡ Some q → (s : List ℕ) → f m s ≡ g m s)
    → first_refused ps f ≡ first_refused ps g
same_refused ps f g h = ap (λ (k : Program → Occurrence → Option (List ℕ)). first_in_bodies k ps)
    (fun_ext (λ p. fun_ext (λ o. same_act ps f g h p o.around o.act)))

one_refused : (ps : List Program) → NoneIsRecursive (run_rows ps) → (x y : Option (List ℕ)) → IsFirstRefused ps x
    → IsFirstRefused ps y → x ≡ y
one_refused ps none x y h k =
    sym h.is
    ∙ same_refused ps h.emitted k.emitted (one_emission ps h.emitted k.emitted none h.emissions k.emissions)
    ∙ k.is

-- ---- numbers of statements

-- a module that a body runs is there
pub runs_are_there : (ps : List Program) (m : List ℕ) (p : Program) → first_in_bodies (missing_at ps) ps ≡ None
    → program_named ps m ≡ Some p → (o : Occurrence) → Contains (occurrences [] p.body) o → (n : List ℕ)
    → IsRunOf o.act n → (q : Program) × (program_named ps n ≡ Some q)
runs_are_there ps m p there found o stands n is_run =
    let place = found_place (λ (r : Program). bytes_eq r.name m) ps p found in
    let body = first_none (λ (r : Program). first_of (missing_at ps r) (occurrences [] r.body)) ps place.0 p there
    place.2 in
    let here : slice_get (occurrences [] p.body) stands.0 ≡ Some o =
    slice_get-get_or (occurrences [] p.body) stands.0 o stands.1 ∙ ap Some stands.2 in
    run_is_there ps o.act n is_run (first_none (missing_at ps p) (occurrences [] p.body) stands.0 o body here)

one_count : (ps : List Program) (f g : List ℕ → ℕ) → NoneIsRecursive (run_rows ps)
    → first_in_bodies (missing_at ps) ps ≡ None → AreCounts ps f → AreCounts ps g → (m : List ℕ) (p : Program)
    → program_named ps m ≡ Some p → f m ≡ g m
one_count ps f g none there f_is g_is = by_modules ps (λ m p. f m ≡ g m) none (λ m p found below.
    f_is m p found
    ∙ counted_same f g [] p.body (λ o stands n is_run. let its = runs_are_there ps m p there found o stands n is_run in
    below o stands n is_run its.0 its.1)
    ∙ sym (g_is m p found))

same_limits : (ps : List Program) (main : List ℕ) (f g : List ℕ → ℕ) → NoneIsRecursive (run_rows ps)
    → first_in_bodies (missing_at ps) ps ≡ None → AreCounts ps f → AreCounts ps g → (o : Option Program)
    → program_named ps main ≡ o → module_limit_passed_by o (f main) ≡ module_limit_passed_by o (g main)
same_limits ps main f g none there f_is g_is None found = refl
same_limits ps main f g none there f_is g_is (Some p) found =
    ap (module_limit_passed_by (Some p)) (one_count ps f g none there f_is g_is main p found)

one_limit : (ps : List Program) (main : List ℕ) → NoneIsRecursive (run_rows ps) → first_missing ps main ≡ None
    → (x y : Option ModuleLimit) → IsLimitPassed ps main x → IsLimitPassed ps main y → x ≡ y
one_limit ps main none there x y h k =
    sym h.is
    ∙ same_limits ps main h.counts k.counts none (none_missing ps main there) h.are k.are (program_named ps main) refl
    ∙ k.is

-- ---- one check after another

-- where a check finds one thing, and those after it have one first fault, there is one
one_check : {Found : Type 0} (fault : Found → LinkFault) (Is : Option Found → Type 0)
    → ((x y : Option Found) → Is x → Is y → x ≡ y) → {Next After : Type 0} (a b : Option LinkFault)
    → (Is None → Next → After → a ≡ b)
    → Refuses (Check fault Is) (λ f. a ≡ Some f) ⊎ Passes (Check fault Is) Next
    → Refuses (Check fault Is) (λ f. b ≡ Some f) ⊎ Passes (Check fault Is) After → a ≡ b
one_check fault Is one a b next (inl x) (inl y) =
    let found : x.given.0 ≡ y.given.0 = some_same x.given.0 y.given.0
    (one (Some x.given.0) (Some y.given.0) x.given.2 y.given.2) in
    x.answered ∙ ap Some (x.given.1 ∙ ap fault found ∙ sym y.given.1) ∙ sym y.answered
one_check fault Is one a b next (inl x) (inr y) =
    absurd (none-some x.given.0 (one None (Some x.given.0) y.passed x.given.2))
one_check fault Is one a b next (inr x) (inl y) =
    absurd (none-some y.given.0 (one None (Some y.given.0) x.passed y.given.2))
one_check fault Is one a b next (inr x) (inr y) = next x.passed x.next y.next

-- the same of a check that finds what a function answers
one_test : {Found : Type 0} (fault : Found → LinkFault) (o : Option Found) {Next After : Type 0}
    (a b : Option LinkFault) → (o ≡ None → Next → After → a ≡ b)
    → Refuses (Check fault (λ found. o ≡ found)) (λ f. a ≡ Some f) ⊎ Passes (Check fault (λ found. o ≡ found)) Next
    → Refuses (Check fault (λ found. o ≡ found)) (λ f. b ≡ Some f) ⊎ Passes (Check fault (λ found. o ≡ found)) After
    → a ≡ b
one_test fault o a b next = one_check fault (λ found. o ≡ found) (λ x y h k. sym h ∙ k) a b next

-- the same of a check that asks for a fact
one_fact : {fault : LinkFault} {Fact : Type 0} {Next After : Type 0} (a b : Option LinkFault)
    → (Next → After → a ≡ b)
    → Refuses (RefuseUnless Fact fault) (λ f. a ≡ Some f) ⊎ Passes (RefuseUnless Fact fault) Next
    → Refuses (RefuseUnless Fact fault) (λ f. b ≡ Some f) ⊎ Passes (RefuseUnless Fact fault) After → a ≡ b
one_fact a b next (inl x) (inl y) = x.answered ∙ ap Some (x.given.0 ∙ sym y.given.0) ∙ sym y.answered
one_fact a b next (inl x) (inr y) = absurd (x.given.1 y.passed)
one_fact a b next (inr x) (inl y) = absurd (y.given.1 x.passed)
one_fact a b next (inr x) (inr y) = next x.next y.next

-- ---- all checks

-- and the main module and each that is run are there
pub all_there : (ps : List Program) (main : List ℕ) → IsFirstFault ps main None → first_missing ps main ≡ None
all_there ps main h = (all_pass ps main h).1.1.0

-- a library has one first fault, or none
pub one_first_fault : (ps : List Program) (main : List ℕ) → (a b : Option LinkFault) → IsFirstFault ps main a
    → IsFirstFault ps main b → a ≡ b
one_first_fault ps main a b =
    one_test DuplicateName (first_duplicate ps) a b
    (λ distinct. one_fact a b
    (one_test UnknownModule (first_missing ps main) a b
    (λ there. one_check RecursiveRun (IsFirstRecursion ps) (one_recursion ps) a b
    (λ none. one_test BadRename (first_in_bodies (bad_renaming_at ps) ps) a b
    (λ renamed. one_test UnknownName (first_in_bodies (unknown_at ps) ps) a b
    (λ known. one_check EmitInput (IsFirstRefused ps) (one_refused ps (none_placed ps distinct none)) a b
    (λ accepted. one_test Semantics (number_over_outputs (program_named ps main)) a b
    (λ lawful. one_check TooLarge (IsLimitPassed ps main)
    (one_limit ps main (none_placed ps distinct none) there) a b
    (λ within h k. h ∙ sym k)))))))))
