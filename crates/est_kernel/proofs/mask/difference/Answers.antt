use Rattle.est_kernel.proofs.Masks.{bits_minus}
use Rattle.est_kernel.proofs.mask.difference.Goals as goal

pub returns : goal.returns
returns c n = bits_minus c.args.a c.args.b n c.ranges.a.fits c.ranges.b.fits
