use Rattle.std.proofs.Common.{arith, refl, ◌∙◌}
use Rattle.est_net.proofs.Ranges.{none_false, one_false}
use Rattle.est_micro.proofs.FreshCells.{fresh_not}
use Rattle.est_micro.proofs.learning.tell_false.Goals as goal

pub loop-cell-init : goal.loop-cell-init
loop-cell-init c = record { told = none_false c.args.from c.args.net.now.cells.items; kept = refl }

pub tell_cell-requires-clause-fresh : goal.tell_cell-requires-clause-fresh
tell_cell-requires-clause-fresh c = fresh_not _ _ _

pub tell_cell-requires-clause-within : goal.tell_cell-requires-clause-within
tell_cell-requires-clause-within c =
    let high = c.loop-cell-test.true in
    let size = c.loop-cell.invariant.told.size in
    omega (arith, c.requires.within)

pub loop-cell-preserved : goal.loop-cell-preserved
loop-cell-preserved c =
    let high = c.loop-cell-test.true in
    record {
      told = one_false c.args.from c.loop-cell.cell c.args.past c.args.net.now.cells.items _ _ (omega arith)
          (omega arith) c.requires.none c.loop-cell.invariant.told c.tell_cell.ensures.learns;
      kept = c.tell_cell.ensures.kept ∙ c.loop-cell.invariant.kept;
    }
