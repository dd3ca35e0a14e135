use Rattle.std.proofs.Common.{◌≡◌, ◌+◌}
use Rattle.est_kernel.specs.Bits.{bits}
use Rattle.est_meaning.specs.Rounds.{how_many}
use Rattle.est_net.proofs.owners.find_signal.Given as goal

-- the cells of the signals so far are left out
abbrev pub invariant-loop-n : goal.invariant-loop-n
invariant-loop-n l = how_many (bits l.signals) l.n + l.left ≡ l.cell
