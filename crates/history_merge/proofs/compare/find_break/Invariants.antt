use Rattle.std.proofs.Common.{ℕ, ◌<◌, None}
use Rattle.history_merge.specs.Order.{part_at, Rises}
use Rattle.history_merge.proofs.compare.find_break.Given as goal

abbrev pub invariant-loop-seat : goal.invariant-loop-seat
invariant-loop-seat l = (s : ℕ) → s < l.seat → Rises 0 None (part_at l.seats s)
