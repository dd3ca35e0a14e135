use Rattle.est_kernel.proofs.Masks.{either_bits}
use Rattle.est_kernel.proofs.code_set.CodeSet.union.Goals as goal

pub returns : goal.returns
returns c = either_bits c.args.self.mask c.args.other.mask
