use Rattle.std.proofs.Common.{◌≡◌, ℕ, take}
use Rattle.est_kernel.specs.Bits.{bits}
use Rattle.est_kernel.specs.Pauses.{pauses_of}
use Rattle.est_net.specs.Reach.{from_pauses}
use Rattle.est_net.proofs.reach.Reach.from_pauses.Given as goal

abbrev pub invariant-loop-from : goal.invariant-loop-from
invariant-loop-from l = (n : ℕ) → bits l.signals n
    ≡ from_pauses (take l.from-index l.from-items) (pauses_of l.pauses) n
