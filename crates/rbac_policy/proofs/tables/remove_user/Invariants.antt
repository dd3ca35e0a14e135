use Rattle.std.proofs.Common.{◌≡◌, ◌++◌, take, drop, map}
use Rattle.rbac_policy.specs.Tables.{user_without}
use Rattle.rbac_policy.proofs.tables.remove_user.Given as goal

abbrev pub invariant-loop-at : goal.invariant-loop-at
invariant-loop-at l = l.users ≡ map (user_without l.name) (take l.at l.fn.users) ++ drop l.at l.fn.users
