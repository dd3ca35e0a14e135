use Rattle.std.proofs.Common.{◌≡◌, ◌&&◌, ℕ, not, take}
use Rattle.std.specs.List.{list_any}
use Rattle.est_kernel.specs.Bits.{bits}
use Rattle.est_cells.specs.Tables.{is_possible}
use Rattle.est_net.specs.Cells.{cell_at}
use Rattle.est_net.specs.Emissions.{is_of}
use Rattle.est_net.proofs.net.Net.silent_among.Given as goal

abbrev pub invariant-loop-emission : goal.invariant-loop-emission
invariant-loop-emission l = (n : ℕ) → bits l.silent n ≡ (bits l.signals n
    && not (list_any (is_of is_possible (cell_at l.self.cells.items) n) (take l.emission-index l.emission-items)))
