use Rattle.std.proofs.Common.{◌≡◌, ◌++◌, take, drop, map}
use Rattle.rbac_policy.specs.Tables.{session_dropped}
use Rattle.rbac_policy.proofs.tables.deactivate.Given as goal

abbrev pub invariant-loop-at : goal.invariant-loop-at
invariant-loop-at l = l.sessions ≡ map (session_dropped l.number l.place) (take l.at l.fn.sessions)
    ++ drop l.at l.fn.sessions
