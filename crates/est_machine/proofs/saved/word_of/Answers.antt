use Rattle.est_kernel.proofs.Interfaces.{none_looked_at}
use Rattle.est_kernel.proofs.Masks.{bits_zero}
use Rattle.est_machine.proofs.saved.word_of.Goals as goal

pub loop-bit-init : goal.loop-bit-init
loop-bit-init c n = none_looked_at _ _ n (bits_zero n)
