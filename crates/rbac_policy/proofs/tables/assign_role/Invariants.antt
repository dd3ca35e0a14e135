use Rattle.std.proofs.Common.{◌≡◌, ◌++◌, take, drop}
use Rattle.std.specs.Prelude.{map}
use Rattle.rbac_policy.specs.Tables.{user_assigned}
use Rattle.rbac_policy.proofs.tables.assign_role.Given as goal

abbrev pub invariant-loop-at : goal.invariant-loop-at
invariant-loop-at l = l.users ≡ map (user_assigned l.name l.place) (take l.at l.fn.users) ++ drop l.at l.fn.users
