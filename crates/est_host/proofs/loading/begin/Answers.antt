use Rattle.std.proofs.lemmas.Result.{err_from_is_err_and}
use Rattle.est_text.specs.declared.lex.LexFault.TheVariants.{Memory}
use Rattle.reactor_core.specs.Loading.{in_cutting}
use Rattle.est_host.proofs.loading.begin.Goals as goal

pub returns-in_err-begin-clause-fault : goal.returns-in_err-begin-clause-fault
returns-in_err-begin-clause-fault c =
    let p = err_from_is_err_and c.from_residual-in_err-begin.result c.from_residual-in_err-begin.ensures.1 in
    rw (p.1, p.2) (in_cutting Memory tt)
