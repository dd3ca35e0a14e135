use Rattle.std.proofs.Common.{◌/◌, ◌%◌}
use Rattle.est_kernel.specs.Pauses.{pauses_of}
use Rattle.est_kernel.proofs.PauseSets.{zero_word}
use Rattle.est_kernel.proofs.pause_set.PauseSet.new.Goals as goal

pub returns : goal.returns
unfolding pauses_of
returns c n = zero_word 32 (n / 64) (n % 64)
