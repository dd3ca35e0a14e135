use Rattle.est_kernel.specs.Pauses.{pauses_of}
use Rattle.est_kernel.proofs.Masks.{has_bit}
use Rattle.est_kernel.proofs.pause_set.PauseSet.has.Goals as goal

pub returns : goal.returns
unfolding pauses_of
returns c = has_bit _ _
