use Rattle.est_kernel.proofs.Masks.{max_bits}
use Rattle.est_kernel.proofs.code_set.greater_of_pairs.Goals as goal

pub returns : goal.returns
returns c = max_bits _ _ _ _ c.ranges.a.fits c.ranges.b.fits c.from_least-2.ensures c.from_least.ensures
