use Rattle.std.proofs.Common.{◌≡◌}
use Rattle.est_reduce.proofs.Interfaces.{new_before}
use Rattle.est_reduce.proofs.reduce.copied.Goals as goal

pub declare-requires-clause-new_name : goal.declare-requires-clause-new_name
declare-requires-clause-new_name c =
    let items = c.args.interface.now in
    let all : c.declarations-declaration-items.result.now ≡ items = c.declarations-declaration-items.ensures.all in
    rw (c.loop-declaration.invariant, rw all at c.declaration-item.is)
    (new_before items c.loop-declaration.declaration-index c.declaration-item.result
    c.declarations-declaration-items.ensures.distinct (rw all at c.loop-declaration-test.true))
