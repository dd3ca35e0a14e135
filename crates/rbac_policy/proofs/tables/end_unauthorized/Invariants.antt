use Rattle.std.proofs.Common.{◌≡◌, ◌++◌, take, drop, map}
use Rattle.rbac_policy.specs.Tables.{session_kept}
use Rattle.rbac_policy.proofs.tables.end_unauthorized.Given as goal

abbrev pub invariant-loop-at : goal.invariant-loop-at
invariant-loop-at l = l.sessions ≡ map (session_kept l.users l.juniors) (take l.at l.fn.sessions)
    ++ drop l.at l.fn.sessions
