-- The first fault of a library: its checks in their order, and the answer by them (this project's own form).
use Rattle.std.specs.Prelude.{◌≡◌, ℕ, nat_lt, Bool, List, length, if◌then◌else◌, Option, Some, None, Result}
use Rattle.std.specs.Prelude.{Ok, Err, ◌⊎◌, IsTrue}
use Rattle.refusal_rules.specs.Rules.{Rule, Rules, RefuseUnless, accept, ◌▸◌, Answers}
use Rattle.est_text.specs.Identifiers.{is_identifier}
use Rattle.est_checks.specs.BadRenamings.{bad_renaming_at}
use Rattle.est_checks.specs.Counting.{AreCounts}
use Rattle.est_checks.specs.Duplicates.{first_duplicate}
use Rattle.est_checks.specs.Emissions.{AreEmissions, first_refused}
use Rattle.est_checks.specs.LinkFaults.{number_over_outputs}
use Rattle.est_checks.specs.MissingModules.{first_missing}
use Rattle.est_checks.specs.RecursiveRuns.{IsFirstRecursion}
use Rattle.est_checks.specs.UnknownNames.{unknown_at}
use Rattle.est_modules.specs.Modules.{Program, program_named, first_in_bodies}
use Rattle.est_kernel.specs.declared.limits.TheConstants.{MOST_STATEMENTS}
use Rattle.est_checks.specs.declared.fault.ModuleLimit.{ModuleLimit}
use Rattle.est_checks.specs.declared.fault.ModuleLimit.TheVariants.{Signals, Relations, Statements}
use Rattle.est_checks.specs.declared.fault.LinkFault.{LinkFault}
use Rattle.est_checks.specs.declared.fault.LinkFault.TheVariants.{DuplicateName, MisnamedMain, UnknownModule}
use Rattle.est_checks.specs.declared.fault.LinkFault.TheVariants.{RecursiveRun, BadRename, UnknownName, EmitInput}
use Rattle.est_checks.specs.declared.fault.LinkFault.TheVariants.{Semantics, TooLarge, Memory}
use Rattle.est_kernel.specs.declared.interface.TheConstants.{MOST_SIGNALS}
use Rattle.est_relations.specs.declared.relations.TheConstants.{MOST_RELATIONS}

-- ---- what checks find

-- the name of the first input, or `tick`, that is emitted, by what each module emits; or that there is none
pub record IsFirstRefused (ps : List Program) (name : Option (List ℕ)) : Type 0 where
  pub emitted : List ℕ → List ℕ → Bool
  pub emissions : AreEmissions ps emitted
  pub is : first_refused ps emitted ≡ name

-- the first limit that a main module with these numbers of signals, relations and statements passes
abbrev pub module_limit_passed : (signals relations statements : ℕ) → Option ModuleLimit
module_limit_passed signals relations statements =
    if nat_lt MOST_SIGNALS signals then Some Signals else (
    if nat_lt MOST_RELATIONS relations then Some Relations else (
    if nat_lt MOST_STATEMENTS statements then Some Statements else None))

-- the same of the main module, if it is there
abbrev pub module_limit_passed_by : Option Program → ℕ → Option ModuleLimit
module_limit_passed_by None statements = None
module_limit_passed_by (Some p) statements = module_limit_passed (length p.interface) (length p.relations) statements

-- that limit, by the numbers of statements that the modules have, or that it passes none
pub record IsLimitPassed (ps : List Program) (main : List ℕ) (limit : Option ModuleLimit) : Type 0 where
  pub counts : List ℕ → ℕ
  pub are : AreCounts ps counts
  pub is : module_limit_passed_by (program_named ps main) (counts main) ≡ limit

-- ---- the checks

-- a check: where it finds something, it refuses with the fault that names this; else it lets pass
abbrev pub Check : {Found : Type 0} → (Found → LinkFault) → (Option Found → Type 0) → Rule LinkFault
Check {Found = Found} fault Finding = record {
  refuses = λ given. (found : Found) × (given ≡ fault found) × Finding (Some found);
  passes = Finding None;
}

-- the checks of a library with this main module, in their order
abbrev pub checks : List Program → (main : List ℕ) → Rules LinkFault
checks ps main =
    Check DuplicateName (λ name. first_duplicate ps ≡ name)
    ▸ RefuseUnless (IsTrue (is_identifier main)) MisnamedMain
    ▸ Check UnknownModule (λ name. first_missing ps main ≡ name)
    ▸ Check RecursiveRun (IsFirstRecursion ps)
    ▸ Check BadRename (λ name. first_in_bodies (bad_renaming_at ps) ps ≡ name)
    ▸ Check UnknownName (λ name. first_in_bodies (unknown_at ps) ps ≡ name)
    ▸ Check EmitInput (IsFirstRefused ps)
    ▸ Check Semantics (λ number. number_over_outputs (program_named ps main) ≡ number)
    ▸ Check TooLarge (IsLimitPassed ps main)
    ▸ accept

-- the answer by checks: the fault of the first that refuses, or none where each lets pass
abbrev pub IsFirstOf : Rules LinkFault → Option LinkFault → Type 0
IsFirstOf rules found = Answers rules (λ fault. found ≡ Some fault) (found ≡ None)

-- the first fault of a library with this main module, or that no check has one
abbrev pub IsFirstFault : List Program → (main : List ℕ) → Option LinkFault → Type 0
IsFirstFault ps main found = IsFirstOf (checks ps main) found

-- the answer is that of checks: no fault is found where it is Ok, and else this one; or memory was refused, which no
-- definition foresees
abbrev pub Finds : {T : Type 0} → (Option LinkFault → Type 0) → Result T LinkFault → Type 0
Finds P (Ok t) = P None
Finds P (Err fault) = (fault ≡ Memory) ⊎ P (Some fault)
