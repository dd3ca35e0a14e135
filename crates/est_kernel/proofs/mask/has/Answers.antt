use Rattle.est_kernel.proofs.Masks.{has_bit}
use Rattle.est_kernel.proofs.mask.has.Goals as goal

pub returns : goal.returns
returns c = has_bit c.args.mask c.args.n
