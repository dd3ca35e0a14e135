use Rattle.est_kernel.proofs.Masks.{bits_zero}
use Rattle.est_micro.proofs.outputs.in_doubt.Goals as goal

pub returns-clause-sure : goal.returns-clause-sure
returns-clause-sure c = bits_zero
