use Rattle.std.proofs.Common.{◌≡◌, take}
use Rattle.std.specs.List.{flat_map}
use Rattle.est_net.specs.Cells.{cell_at}
use Rattle.lab_instant.proofs.Cells.{locals_at}
use Rattle.lab_instant.proofs.reading.locals_of.Given as goal

abbrev pub invariant-loop-place : goal.invariant-loop-place
invariant-loop-place l =
    l.locals.items ≡ flat_map (locals_at l.cells (cell_at l.net.cells.items) l.first) (take l.place-index l.signals)
