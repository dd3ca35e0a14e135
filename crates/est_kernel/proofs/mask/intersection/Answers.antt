use Rattle.est_kernel.proofs.Masks.{bits_and}
use Rattle.est_kernel.proofs.mask.intersection.Goals as goal

pub returns : goal.returns
returns c n = bits_and c.args.a c.args.b n
