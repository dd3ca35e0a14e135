use Rattle.std.proofs.Common.{inr, map, sym, ◌∙◌}
use Rattle.est_checks.specs.Emissions.{emitted_of}
use Rattle.est_checks.specs.FirstFaults.{IsFirstOf}
use Rattle.est_checks.specs.Inner.Stages.{IsLimitFault, emission_checks}
use Rattle.est_modules.specs.Modules.{program_of}
use Rattle.est_checks.proofs.Finding.{emissions_here, emissions_next, finds_by}
use Rattle.est_checks.proofs.library_check.check_from_emissions.Goals as goal

pub returns-in-Some : goal.returns-in-Some
returns-in-Some c =
    inr
    (emissions_here (map program_of c.args.modules.now) c.args.main.now (emitted_of c.in_ok-table.table) c.in-Some.fault
    c.in_ok-table.ensures (sym c.in-Some.is ∙ c.in_ok-fault.ensures))

pub returns : goal.returns
returns c =
    let ps = map program_of c.args.modules.now in
    finds_by (IsLimitFault ps c.args.main.now) (IsFirstOf (emission_checks ps c.args.main.now))
    (emissions_next ps c.args.main.now (emitted_of c.in_ok-table.table) c.in_ok-table.ensures
    (sym c.in-None.is ∙ c.in_ok-fault.ensures))
    c.check_limits.result c.check_limits.ensures
