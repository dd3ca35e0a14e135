use Rattle.std.proofs.Common.{◌≡◌, slice_get}
use Rattle.lab_instant.specs.OwnCells.{signal_at}
use Rattle.lab_instant.specs.Seen.{found_below}
use Rattle.lab_instant.proofs.owners.signals_among.Given as goal

abbrev pub invariant-loop-place : goal.invariant-loop-place
invariant-loop-place l = l.signals.items ≡ found_below (λ x. signal_at (slice_get l.cells x) x) l.place
