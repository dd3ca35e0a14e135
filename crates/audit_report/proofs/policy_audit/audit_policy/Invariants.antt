use Rattle.std.proofs.Common.{◌≡◌, ℕ, ◌<◌, take}
use Rattle.rbac_policy.specs.Change.{policy_of}
use Rattle.audit_report.specs.Replaying.{IsRightAt}
use Rattle.audit_report.proofs.policy_audit.audit_policy.Given as goal

-- the places so far are right, and the policy has taken their entries in
abbrev pub invariant-loop-at : goal.invariant-loop-at
invariant-loop-at l = record {
  right : (k : ℕ) → k < l.at → IsRightAt l.entries k;
  policy : l.policy ≡ policy_of (take l.at l.entries);
}
