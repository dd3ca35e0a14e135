use Rattle.std.proofs.Common.{◌≡◌, ◌++◌, take, drop, map}
use Rattle.rbac_policy.specs.Tables.{user_cleared}
use Rattle.rbac_policy.proofs.tables.deassign_role_from_all.Given as goal

abbrev pub invariant-loop-at : goal.invariant-loop-at
invariant-loop-at l = l.users ≡ map (user_cleared l.place) (take l.at l.fn.users) ++ drop l.at l.fn.users
