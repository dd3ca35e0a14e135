use Rattle.std.proofs.Common.{ℕ, ◌≡◌, ◌<◌, length}
use Rattle.std.specs.Prelude.{slice_index}
use Rattle.history_merge.specs.Order.{part_at}
use Rattle.history_merge.proofs.compare.find_count.Given as goal

abbrev pub invariant-loop-slot : goal.invariant-loop-slot
invariant-loop-slot l = (k : ℕ) → k < l.slot → slice_index l.taken.counts k ≡ length (part_at l.journals k)
