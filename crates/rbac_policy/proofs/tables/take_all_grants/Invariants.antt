use Rattle.std.proofs.Common.{◌≡◌, ◌++◌, take, drop, map}
use Rattle.rbac_policy.specs.Tables.{grant_cleared}
use Rattle.rbac_policy.proofs.tables.take_all_grants.Given as goal

abbrev pub invariant-loop-at : goal.invariant-loop-at
invariant-loop-at l = l.grants ≡ map (grant_cleared l.place) (take l.at l.fn.grants) ++ drop l.at l.fn.grants
