use Rattle.std.proofs.Common.{◌≡◌, drop, fold}
use Rattle.std.specs.Prelude.{None}
use Rattle.rbac_policy.specs.Inner.Violations.{lesser, violator}
use Rattle.rbac_policy.proofs.separation.least_violator.Given as goal

abbrev pub invariant-loop-row : goal.invariant-loop-row
invariant-loop-row l =
    fold (λ least row. lesser (λ n. n) least (violator l.juniors l.set row)) l.least (drop l.row-index l.sessions)
    ≡ fold (λ least row. lesser (λ n. n) least (violator l.juniors l.set row)) None l.sessions
