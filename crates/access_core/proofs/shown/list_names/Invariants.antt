use Rattle.std.proofs.Common.{◌≡◌, map, filter}
use Rattle.std.specs.List.{range_with_len}
use Rattle.est_kernel.specs.Bits.{bits}
use Rattle.access_core.specs.Shown.{name_at}
use Rattle.access_core.proofs.shown.list_names.Given as goal

abbrev pub invariant-loop-place : goal.invariant-loop-place
invariant-loop-place l = l.names ≡ map (name_at l.interface) (filter (bits l.signals) (range_with_len 0 l.place))
