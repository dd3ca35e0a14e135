use Rattle.std.proofs.Common.{◌≡◌, take}
use Rattle.rbac_policy.specs.Change.{policy_of}
use Rattle.rbac_policy.specs.Opening.{opening_entries}
use Rattle.rbac_policy.proofs.policy.Policy.opening.Given as goal

abbrev pub invariant-loop-entry : goal.invariant-loop-entry
invariant-loop-entry l = l.policy ≡ policy_of (take l.entry-index opening_entries)
