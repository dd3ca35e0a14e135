use Rattle.std.proofs.lemmas.Result.{err_from_is_err_and}
use Rattle.est_text.specs.declared.lex.LexFault.TheVariants.{Memory}
use Rattle.reactor_core.specs.Loading.{in_cutting}
use Rattle.reactor_core.proofs.reactor.build_module.Goals as goal

pub returns-in_err-build-clause-fault : goal.returns-in_err-build-clause-fault
returns-in_err-build-clause-fault c =
    let p = err_from_is_err_and c.from_residual-in_err-build.result c.from_residual-in_err-build.ensures.1 in
    rw (p.1, p.2) (in_cutting Memory tt)
