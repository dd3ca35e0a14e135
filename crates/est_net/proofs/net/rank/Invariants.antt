use Rattle.std.proofs.Common.{◌≡◌, ◌≤◌}
use Rattle.est_kernel.specs.Bits.{bits}
use Rattle.est_meaning.specs.Rounds.{how_many}
use Rattle.est_net.proofs.net.rank.Given as goal

abbrev pub invariant-loop-n : goal.invariant-loop-n
invariant-loop-n l = record { so_far : l.count ≡ how_many (bits l.signals) l.n; bounded : l.count ≤ l.n }
