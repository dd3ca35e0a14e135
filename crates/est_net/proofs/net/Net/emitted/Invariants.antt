use Rattle.std.proofs.Common.{◌≡◌, ℕ, take}
use Rattle.std.specs.List.{list_any}
use Rattle.est_kernel.specs.Bits.{bits}
use Rattle.est_cells.specs.Tables.{is_possible, is_sure}
use Rattle.est_net.specs.Cells.{cell_at}
use Rattle.est_net.specs.Emissions.{is_of}
use Rattle.est_net.proofs.net.Net.emitted.Given as goal

abbrev pub invariant-loop-emission : goal.invariant-loop-emission
invariant-loop-emission l = record {
  sure : (n : ℕ) → bits l.said.sure n
      ≡ list_any (is_of is_sure (cell_at l.self.cells.items) n) (take l.emission-index l.emission-items);
  possible : (n : ℕ) → bits l.said.possible n
      ≡ list_any (is_of is_possible (cell_at l.self.cells.items) n) (take l.emission-index l.emission-items);
}
