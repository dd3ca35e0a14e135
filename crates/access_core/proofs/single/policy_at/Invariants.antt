use Rattle.std.proofs.Common.{◌≡◌, take}
use Rattle.rbac_policy.specs.Change.{policy_of}
use Rattle.access_core.proofs.single.policy_at.Given as goal

-- the entries so far are taken in
abbrev pub invariant-loop-entry : goal.invariant-loop-entry
invariant-loop-entry l = l.policy ≡ policy_of (take l.entry-index l.entry-items)
