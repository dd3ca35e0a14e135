-- The last of the checks of a library, as far as a stage of the code asks them (this project's own form).
use Rattle.std.specs.Prelude.{◌≡◌, ℕ, List, Bool, Option, option_map}
use Rattle.std.specs.Option.{option_or}
use Rattle.refusal_rules.specs.Rules.{Rules, accept, ◌▸◌}
use Rattle.est_checks.specs.BadRenamings.{bad_renaming_at}
use Rattle.est_checks.specs.Counting.{AreCounts}
use Rattle.est_checks.specs.Emissions.{first_refused}
use Rattle.est_checks.specs.FirstFaults.{Check, IsFirstRefused, IsLimitPassed, module_limit_passed_by}
use Rattle.est_checks.specs.LinkFaults.{number_over_outputs}
use Rattle.est_checks.specs.RecursiveRuns.{IsFirstRecursion}
use Rattle.est_checks.specs.UnknownNames.{unknown_at}
use Rattle.est_modules.specs.Modules.{Program, program_named, first_in_bodies}
use Rattle.est_checks.specs.declared.fault.LinkFault.{LinkFault}
use Rattle.est_checks.specs.declared.fault.LinkFault.TheVariants.{RecursiveRun, BadRename, UnknownName, EmitInput}
use Rattle.est_checks.specs.declared.fault.LinkFault.TheVariants.{Semantics, TooLarge}

-- what the check of limits finds, by the numbers of statements that the modules have
pub record IsLimitFault (ps : List Program) (main : List ℕ) (found : Option LinkFault) : Type 0 where
  pub counts : List ℕ → ℕ
  pub are : AreCounts ps counts
  pub is : found ≡ option_map TooLarge (module_limit_passed_by (program_named ps main) (counts main))

-- the first fault of the checks of renamings and of names
abbrev pub fault_of_names : List Program → Option LinkFault
fault_of_names ps =
    option_or (option_map BadRename (first_in_bodies (bad_renaming_at ps) ps))
    (option_map UnknownName (first_in_bodies (unknown_at ps) ps))

-- the same of those of emissions and of relations, by what each module emits
abbrev pub fault_of_emissions : List Program → List ℕ → (List ℕ → List ℕ → Bool) → Option LinkFault
fault_of_emissions ps main emitted =
    option_or (option_map EmitInput (first_refused ps emitted))
    (option_map Semantics (number_over_outputs (program_named ps main)))

-- the last check
abbrev pub limit_checks : List Program → List ℕ → Rules LinkFault
limit_checks ps main = Check TooLarge (IsLimitPassed ps main) ▸ accept

-- the checks from that of emissions on
abbrev pub emission_checks : List Program → List ℕ → Rules LinkFault
emission_checks ps main =
    Check EmitInput (IsFirstRefused ps)
    ▸ Check Semantics (λ number. number_over_outputs (program_named ps main) ≡ number)
    ▸ limit_checks ps main

-- the checks from that of renamings on
abbrev pub name_checks : List Program → List ℕ → Rules LinkFault
name_checks ps main =
    Check BadRename (λ name. first_in_bodies (bad_renaming_at ps) ps ≡ name)
    ▸ Check UnknownName (λ name. first_in_bodies (unknown_at ps) ps ≡ name)
    ▸ emission_checks ps main

-- the checks from that of recursive runs on
abbrev pub run_checks : List Program → List ℕ → Rules LinkFault
run_checks ps main = Check RecursiveRun (IsFirstRecursion ps) ▸ name_checks ps main
