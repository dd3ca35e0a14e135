use Rattle.std.proofs.Common.{inr, map, sym, ◌∙◌}
use Rattle.est_checks.specs.FirstFaults.{IsFirstOf}
use Rattle.est_checks.specs.Inner.Stages.{emission_checks, name_checks}
use Rattle.est_modules.specs.Modules.{program_of}
use Rattle.est_checks.proofs.Finding.{finds_by, names_here, names_known, names_next}
use Rattle.est_checks.proofs.library_check.check_from_names.Goals as goal

pub returns-in-Some : goal.returns-in-Some
returns-in-Some c =
    inr
    (names_here (map program_of c.args.modules.now) c.args.main.now c.in-Some.fault
    (sym c.in-Some.is ∙ c.in_ok-fault.ensures))

pub check_from_emissions-requires-clause-known : goal.check_from_emissions-requires-clause-known
check_from_emissions-requires-clause-known c =
    names_known (map program_of c.args.modules.now) (sym c.in-None.is ∙ c.in_ok-fault.ensures)

pub returns : goal.returns
returns c =
    let ps = map program_of c.args.modules.now in
    finds_by (IsFirstOf (emission_checks ps c.args.main.now)) (IsFirstOf (name_checks ps c.args.main.now))
    (names_next ps c.args.main.now (sym c.in-None.is ∙ c.in_ok-fault.ensures))
    c.check_from_emissions.result c.check_from_emissions.ensures
