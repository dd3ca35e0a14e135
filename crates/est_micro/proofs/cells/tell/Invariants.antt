use Rattle.std.proofs.Common.{◌≡◌}
use Rattle.est_kernel.specs.CodeViews.{codes_of}
use Rattle.est_net.specs.Kept.{kept}
use Rattle.est_micro.proofs.Telling.{ToldAndRead}
use Rattle.est_micro.proofs.cells.tell.Given as goal

abbrev pub invariant-loop-code : goal.invariant-loop-code
invariant-loop-code g l = record {
  told : ToldAndRead l.cell l.code l.judged l.fn.net.cells.items l.net.cells.items (codes_of l.read.sure)
      (codes_of l.read.possible);
  kept : kept l.net ≡ kept l.fn.net;
}
