use Rattle.std.proofs.Common.{ℕ, ◌<◌}
use Rattle.audit_report.specs.Replaying.{IsRightAt}
use Rattle.audit_report.proofs.policy_audit.check_opening.Given as goal

-- the places so far are right
abbrev pub invariant-loop-at : goal.invariant-loop-at
invariant-loop-at l = (k : ℕ) → k < l.at → IsRightAt l.entries k
