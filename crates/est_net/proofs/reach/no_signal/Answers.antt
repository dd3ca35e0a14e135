use Rattle.est_kernel.proofs.Masks.{bits_zero}
use Rattle.est_net.proofs.reach.no_signal.Goals as goal

pub returns : goal.returns
returns c = bits_zero
