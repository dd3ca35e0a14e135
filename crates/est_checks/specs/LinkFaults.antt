-- The faults of the checks before and after the order of the modules, in their order (this project's own form).
use Rattle.std.specs.Prelude.{ℕ, List, Bool, if◌then◌else◌, Option, Some, None, option_map}
use Rattle.std.specs.Option.{option_or}
use Rattle.est_text.specs.Identifiers.{is_identifier}
use Rattle.est_modules.specs.Modules.{Program, program_named, first_in_bodies}
use Rattle.est_checks.specs.Duplicates.{first_duplicate}
use Rattle.est_checks.specs.MissingModules.{first_missing}
use Rattle.est_checks.specs.BadRenamings.{bad_renaming_at}
use Rattle.est_checks.specs.UnknownNames.{unknown_at}
use Rattle.est_checks.specs.Emissions.{first_refused}
use Rattle.est_checks.specs.LawlessRelations.{first_over_outputs}
use Rattle.est_checks.specs.declared.fault.LinkFault.{LinkFault}
use Rattle.est_checks.specs.declared.fault.LinkFault.TheVariants.{DuplicateName, MisnamedMain, UnknownModule, BadRename}
use Rattle.est_checks.specs.declared.fault.LinkFault.TheVariants.{UnknownName, EmitInput, Semantics}

-- the fault of a main module whose name is no identifier, which no module has
abbrev pub misnamed_main : List ℕ → Option LinkFault
misnamed_main main = if is_identifier main then None else Some MisnamedMain

-- the first of the checks that come before the order of the modules: names declared twice, the name of the main
-- module, modules that aren't there
abbrev pub fault_before_order : List Program → List ℕ → Option LinkFault
fault_before_order ps main =
    option_or (option_map DuplicateName (first_duplicate ps))
    (option_or (misnamed_main main)
    (option_map UnknownModule (first_missing ps main)))

-- the number of the first lawless relation of the main module
abbrev pub number_over_outputs : Option Program → Option ℕ
number_over_outputs None = None
number_over_outputs (Some p) = first_over_outputs p

-- the first of the checks that come after it: renamings, names, emissions, relations of the main module
abbrev pub fault_after_order : List Program → List ℕ → (List ℕ → List ℕ → Bool) → Option LinkFault
fault_after_order ps main emitted =
    option_or (option_map BadRename (first_in_bodies (bad_renaming_at ps) ps))
    (option_or (option_map UnknownName (first_in_bodies (unknown_at ps) ps))
    (option_or (option_map EmitInput (first_refused ps emitted))
    (option_map Semantics (number_over_outputs (program_named ps main)))))
