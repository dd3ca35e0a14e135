use Rattle.std.proofs.Common.{◌≡◌, IfOk, map, sym, subst}
use Rattle.est_modules.specs.Modules.{program_of}
use Rattle.est_modules.specs.Scopes.{act_of, binders_of}
use Rattle.est_checks.specs.Emissions.{emitted_of, refused_at}
use Rattle.est_checks.proofs.input_emissions.EmitInputPlaceCheck.fault.Goals as goal

pub returns-in-Runs : goal.returns-in-Runs
returns-in-Runs c =
    let check = c.args.self.now in
    subst
    (λ act. IfOk c.refused_in_run.result (λ name. name ≡ refused_at (map program_of check.modules.now)
    (emitted_of check.table.now) (program_of check.home.now)
    (record { act = act_of act; around = binders_of c.args.scope.now }))) (sym c.in-Runs.is) c.refused_in_run.ensures
