use Rattle.std.proofs.Common.{◌≡◌, ◌++◌, take, drop, map}
use Rattle.rbac_policy.specs.Tables.{set_without}
use Rattle.rbac_policy.proofs.tables.remove_set.Given as goal

abbrev pub invariant-loop-at : goal.invariant-loop-at
invariant-loop-at l = l.sets ≡ map (set_without l.name) (take l.at l.fn.sets) ++ drop l.at l.fn.sets
