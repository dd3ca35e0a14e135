use Rattle.std.proofs.Common.{refl}
use Rattle.est_micro.proofs.Hearing.{told_is}
use Rattle.est_micro.proofs.must_can.with_emitted.Goals as goal

pub returns : goal.returns
returns c = told_is c.args.env.now _ c.args.signals c.with_possible.ensures c.with_possible-2.ensures refl
