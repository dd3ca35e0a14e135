use Rattle.std.proofs.Common.{refl, subst}
use Rattle.history_merge.specs.Inner.Taking.{Lesser, head}
use Rattle.history_merge.proofs.Leasts.{lesser_keeps}
use Rattle.history_merge.proofs.merge.find_least.Goals as goal

pub loop-seat-preserved : goal.loop-seat-preserved
loop-seat-preserved c =
    let next = head c.args.seats.now c.args.read.now c.loop-seat.seat in
    lesser_keeps c.args.seats.now c.args.read.now c.loop-seat.seat c.loop-seat.least next c.lesser-least.result refl
    (subst (λ n. Lesser c.loop-seat.least c.loop-seat.seat n c.lesser-least.result) c.rank_head.ensures
    c.lesser-least.ensures) c.loop-seat.invariant
