use Rattle.std.proofs.Common.{None, map, sym, subst}
use Rattle.std.proofs.lemmas.Result.{err_from_is_err_and}
use Rattle.est_checks.specs.FirstFaults.{IsFirstFault}
use Rattle.est_modules.specs.Modules.{program_of}
use Rattle.est_link.proofs.link.link_modules.Goals as goal

pub returns-in_err-main-clause-first : goal.returns-in_err-main-clause-first
returns-in_err-main-clause-first c =
    let p = err_from_is_err_and c.from_residual.result c.from_residual.ensures.1 in
    rw (p.1, p.2) c.in_err-main.ensures.found

pub flat_module-requires-clause-checked : goal.flat_module-requires-clause-checked
flat_module-requires-clause-checked c =
    subst (λ m. IsFirstFault (map program_of c.args.modules.now) m None) (sym c.in_ok-main.ensures.name)
    c.in_ok-main.ensures.found
