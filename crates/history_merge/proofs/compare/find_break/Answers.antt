use Rattle.std.proofs.Common.{◌≡◌, ◌∙◌, sym, subst, None, below_more}
use Rattle.history_merge.specs.Order.{part_at, Rises}
use Rattle.history_merge.proofs.Leasts.{part_is}
use Rattle.history_merge.proofs.compare.find_break.Goals as goal

pub loop-seat-preserved : goal.loop-seat-preserved
loop-seat-preserved c =
    let here : part_at c.args.seats.now c.loop-seat.seat ≡ c.index-seats-seat.result =
    part_is c.args.seats.now c.loop-seat.seat c.index-seats-seat.result c.loop-seat-test.true
    c.index-seats-seat.is in
    below_more _ _ c.loop-seat.invariant
    (subst (Rises 0 None) (c.as_slice-kept.ensures ∙ sym here) c.in_default.ensures)
