use Rattle.std.proofs.Common.{◌≡◌, take}
use Rattle.est_order.specs.Inner.Reached.{followed}
use Rattle.est_order.proofs.reach.follow.Given as goal

abbrev pub invariant-loop-place : goal.invariant-loop-place
invariant-loop-place l = record { seen = l.seen.items; waiting = l.waiting.items } ≡ followed
    (record { seen = l.initial.seen.items; waiting = l.initial.waiting.items }) (take l.place-index l.row)
