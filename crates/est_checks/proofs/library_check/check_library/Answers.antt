use Rattle.std.proofs.Common.{None, map, subst}
use Rattle.std.proofs.lemmas.Result.{err_from_is_err_and}
use Rattle.est_checks.specs.FirstFaults.{IsFirstOf}
use Rattle.est_checks.specs.Inner.Stages.{run_checks}
use Rattle.est_modules.specs.Modules.{program_of}
use Rattle.est_checks.proofs.Finding.{first_found, first_later, first_next, none_twice}
use Rattle.est_checks.proofs.library_check.check_library.Goals as goal

pub returns-in_err-main-clause-found : goal.returns-in_err-main-clause-found
returns-in_err-main-clause-found c =
    let p = err_from_is_err_and c.from_residual.result c.from_residual.ensures.1 in
    rw (p.1, p.2)
    (first_found (map program_of c.args.modules.now) c.args.main.now c.in_err-main.field-0.0
    c.in_err-main.ensures.found)

pub check_from_runs-requires : goal.check_from_runs-requires
check_from_runs-requires c = none_twice (map program_of c.args.modules.now) c.args.main.now c.in_ok-main.ensures.found

pub returns-in_err-order-clause-found : goal.returns-in_err-order-clause-found
returns-in_err-order-clause-found c =
    let residual = c.from_residual-in_err-order in
    let p = err_from_is_err_and residual.result residual.ensures.1 in
    rw (p.1, p.2)
    (first_later (map program_of c.args.modules.now) c.args.main.now c.in_ok-main.main c.in_ok-main.ensures.name
    c.in_ok-main.ensures.found c.in_err-order.field-0.0 c.in_err-order.ensures.found)

pub returns-clause-found : goal.returns-clause-found
returns-clause-found c =
    let ps = map program_of c.args.modules.now in
    first_next ps c.args.main.now c.in_ok-main.ensures.found None
    (subst (λ m. IsFirstOf (run_checks ps m) None) c.in_ok-main.ensures.name c.in_ok-order.ensures.found)
