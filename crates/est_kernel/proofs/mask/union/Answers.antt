use Rattle.est_kernel.proofs.Masks.{bits_or}
use Rattle.est_kernel.proofs.mask.union.Goals as goal

pub returns : goal.returns
returns c n = bits_or c.args.a c.args.b n
