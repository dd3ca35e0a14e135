use Rattle.std.proofs.Common.{arith}
use Rattle.est_net.proofs.Ranges.{open_there, filled_more, none_false}
use Rattle.est_net.proofs.table.fill.Goals as goal

pub decide-requires : goal.decide-requires
decide-requires c =
    let high = c.loop-cell-test.true in
    open_there c.args.from c.loop-cell.cell c.args.past c.args.cells.now _ (omega arith) (omega arith) c.requires.within
    c.requires.open c.loop-cell.invariant.filled

pub loop-cell-preserved : goal.loop-cell-preserved
loop-cell-preserved c =
    let high = c.loop-cell-test.true in
    let count = c.decide.ensures.count in
    let so_far = c.loop-cell.invariant.count in
    record {
      filled = filled_more c.args.from c.loop-cell.cell c.args.past c.args.cells.now _ _ (omega arith) (omega arith)
          c.requires.within c.requires.open c.loop-cell.invariant.filled c.decide.ensures.cells;
      count = omega arith;
    }

pub loop-cell-init : goal.loop-cell-init
loop-cell-init c = record { filled = none_false c.args.from c.args.cells.now; count = omega arith }
