use Rattle.std.proofs.Common.{◌≡◌, ◌≢◌, ℕ, true, false, ◌<◌, ◌≤◌, ◌+◌, ◌-◌, ◌*◌, length}
use Rattle.est_kernel.specs.Bits.{bits}
use Rattle.est_kernel.specs.Pauses.{some_from, pauses_of}
use Rattle.est_kernel.proofs.pause_set.PauseSet.+has_some.Given as goal

-- proposed from what the function passes where it calls itself
abbrev pub decreases-has_some : goal.decreases-has_some
decreases-has_some l = l.count
