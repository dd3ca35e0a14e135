use Rattle.std.proofs.Common.{◌≡◌, take}
use Rattle.rbac_policy.specs.Change.{policy_of}
use Rattle.audit_report.proofs.slot_audit.absorb_up_to.Given as goal

-- the entries so far are taken in
abbrev pub invariant-loop-at : goal.invariant-loop-at
invariant-loop-at l = l.policy ≡ policy_of (take l.at l.entries)
