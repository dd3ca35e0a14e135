use Rattle.std.proofs.Common.{None, map}
use Rattle.std.proofs.lemmas.Result.{err_from_is_err_and}
use Rattle.est_modules.specs.Modules.{program_of}
use Rattle.est_checks.proofs.Finding.{runs_found, runs_here, runs_next}
use Rattle.est_checks.proofs.library_check.check_from_runs.Goals as goal

pub returns-in_err-order-clause-found : goal.returns-in_err-order-clause-found
returns-in_err-order-clause-found c =
    let p = err_from_is_err_and c.from_residual.result c.from_residual.ensures.1 in
    rw (p.1, p.2)
    (runs_here (map program_of c.args.modules.now) c.args.main.now c.in_err-order.field-0.0 c.requires
    c.in_err-order.ensures.err)

pub returns-in_err-check_from_names-clause-found : goal.returns-in_err-check_from_names-clause-found
returns-in_err-check_from_names-clause-found c =
    let residual = c.from_residual-in_err-check_from_names in
    let p = err_from_is_err_and residual.result residual.ensures.1 in
    rw (p.1, p.2)
    (runs_found (map program_of c.args.modules.now) c.args.main.now c.in_ok-order.ensures.ok
    c.in_err-check_from_names.field-0.0 c.in_err-check_from_names.ensures)

pub returns-clause-found : goal.returns-clause-found
returns-clause-found c =
    runs_next (map program_of c.args.modules.now) c.args.main.now c.in_ok-order.ensures.ok None
    c.in_ok-check_from_names.ensures
