use Rattle.std.proofs.Common.{◌≡◌, ◌≤◌, length, take}
use Rattle.rbac_policy.specs.Change.{policy_of}
use Rattle.access_core.specs.Journals.{last_version, AreLegal}
use Rattle.audit_report.proofs.slot_audit.audit_slot.Given as goal

-- the entries so far are legal, and the slot has them; the policy is that of the last one's version
abbrev pub invariant-loop-at : goal.invariant-loop-at
invariant-loop-at g l = record {
  policy : l.policy ≡ policy_of (take l.version l.entries);
  known : l.version ≤ length l.entries;
  last : l.version ≡ last_version (take l.at l.journal);
  number : l.slot.number ≡ l.number;
  journal : l.slot.journal ≡ take l.at l.journal;
  legal : AreLegal l.entries l.number l.journal l.at;
}
