use Rattle.std.proofs.Common.{◌<◌, arith, rules}
use Rattle.est_reduce.proofs.Binders.{binders_step}
use Rattle.est_reduce.proofs.builder.+inside_binders.Goals as goal

pub returns : goal.returns
returns t c =
    let some : 0 < c.args.count = omega arith in
    rw (binders_step c.args.locals c.args.count _ some) (search rules)

pub inside_binders-requires : goal.inside_binders-requires
inside_binders-requires t c = (omega (arith, c.decreases), omega arith)
