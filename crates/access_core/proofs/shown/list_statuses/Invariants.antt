use Rattle.std.proofs.Common.{◌≡◌, map, filter}
use Rattle.std.specs.List.{range_with_len}
use Rattle.est_kernel.specs.Bits.{bits}
use Rattle.access_core.specs.Shown.{present_at}
use Rattle.access_core.proofs.shown.list_statuses.Given as goal

abbrev pub invariant-loop-place : goal.invariant-loop-place
invariant-loop-place l = l.shown ≡ map (present_at l.interface l.present)
    (filter (bits l.seen) (range_with_len 0 l.place))
