use Rattle.std.proofs.Common.{ℕ, ◌-◌, ◌<◌, ◌≤◌, length}
use Rattle.est_text.specs.Pieces.{ClosesAt}
use Rattle.est_text.proofs.scan.close_at.Given as goal

abbrev pub invariant-loop-at : goal.invariant-loop-at
invariant-loop-at l = record { within : l.at ≤ length l.rest; none : (i : ℕ) → i < l.at → ¬ (ClosesAt l.rest i) }

abbrev pub decreases-loop-at : goal.decreases-loop-at
decreases-loop-at l = length l.rest - l.at
