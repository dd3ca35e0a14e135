use Rattle.std.proofs.Common.{◌≡◌, ◌++◌, take, drop, map}
use Rattle.rbac_policy.specs.Tables.{session_activated}
use Rattle.rbac_policy.proofs.tables.activate.Given as goal

abbrev pub invariant-loop-at : goal.invariant-loop-at
invariant-loop-at l = l.sessions ≡ map (session_activated l.number l.place) (take l.at l.fn.sessions)
    ++ drop l.at l.fn.sessions
