use Rattle.std.proofs.Common.{◌≡◌}
use Rattle.est_kernel.specs.Bits.{bits}
use Rattle.est_net.specs.Kept.{kept}
use Rattle.est_micro.specs.Inner.Outputs.{told_of}
use Rattle.est_micro.proofs.UpdatingSignals.{UpdatingSignals}
use Rattle.est_micro.proofs.outputs.update_all_signals.Given as goal

abbrev pub invariant-loop-n : goal.invariant-loop-n
invariant-loop-n l = record {
  exchanging : UpdatingSignals (bits l.signals) l.n (told_of l.inputs l.judged) l.read.cell (bits l.read.sure)
      (bits l.read.possible) l.fn.net.cells.items l.net.cells.items;
  kept : kept l.net ≡ kept l.fn.net;
}
