use Rattle.std.proofs.Common.{◌+◌, arith}
use Rattle.est_net.proofs.Ranges.{filled_more, none_false, open_there, two_filled}
use Rattle.est_net.proofs.table.fill_three.Goals as goal

pub decide-requires : goal.decide-requires
decide-requires c =
    let from = c.args.from in
    open_there from from (from + 3) c.args.cells.now _ (omega arith) (omega arith) c.requires.within c.requires.open
    (none_false from c.args.cells.now)

pub decide-requires-2 : goal.decide-requires-2
decide-requires-2 c =
    let from = c.args.from in
    open_there from (from + 1) (from + 3) c.args.cells.now _ (omega arith) (omega arith) c.requires.within
    c.requires.open
    (filled_more from from (from + 3) c.args.cells.now _ _ (omega arith) (omega arith) c.requires.within c.requires.open
    (none_false from c.args.cells.now) c.decide.ensures.cells)

pub decide-requires-3 : goal.decide-requires-3
decide-requires-3 c =
    let from = c.args.from in
    open_there from (from + 2) (from + 3) c.args.cells.now _ (omega arith) (omega arith) c.requires.within
    c.requires.open
    (two_filled from (from + 3) c.args.cells.now _ _ (omega arith) c.requires.within c.requires.open
    c.decide.ensures.cells c.decide-2.ensures.cells)
