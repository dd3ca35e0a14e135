use Rattle.std.proofs.Common.{◌≡◌, ◌++◌, take, drop, map}
use Rattle.rbac_policy.specs.Tables.{session_of_other}
use Rattle.rbac_policy.proofs.tables.end_sessions_of.Given as goal

abbrev pub invariant-loop-at : goal.invariant-loop-at
invariant-loop-at l = l.sessions ≡ map (session_of_other l.user) (take l.at l.fn.sessions) ++ drop l.at l.fn.sessions
