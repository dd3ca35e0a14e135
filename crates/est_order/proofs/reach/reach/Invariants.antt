use Rattle.est_order.specs.RunRows.{rows_of}
use Rattle.est_order.specs.Inner.Reached.{left_to_do, IsSearching}
use Rattle.est_order.proofs.reach.reach.Given as goal

abbrev pub invariant-loop-next : goal.invariant-loop-next
invariant-loop-next l = IsSearching (rows_of l.runs) l.place (record { seen = l.seen.items; waiting = l.waiting.items })

abbrev pub decreases-loop-next : goal.decreases-loop-next
decreases-loop-next l = left_to_do (record { seen = l.seen.items; waiting = l.waiting.items })
