use Rattle.std.proofs.Common.{◌≡◌, ◌++◌, take, drop, map}
use Rattle.rbac_policy.specs.Tables.{grant_revoked}
use Rattle.rbac_policy.proofs.tables.take_grant.Given as goal

abbrev pub invariant-loop-at : goal.invariant-loop-at
invariant-loop-at l = l.grants ≡ map (grant_revoked l.operation l.object l.place) (take l.at l.fn.grants)
    ++ drop l.at l.fn.grants
