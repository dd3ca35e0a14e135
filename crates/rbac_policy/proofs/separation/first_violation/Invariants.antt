use Rattle.std.proofs.Common.{◌≡◌, ◌++◌, ◌∷◌, [], drop, fold}
use Rattle.std.specs.Prelude.{None}
use Rattle.rbac_policy.specs.Inner.Violations.{lesser, place_of_set, violation_of}
use Rattle.rbac_policy.proofs.separation.first_violation.Given as goal

abbrev pub invariant-loop-row : goal.invariant-loop-row
invariant-loop-row l =
    fold (λ first row. lesser place_of_set first (violation_of l.juniors (l.sessions ++ l.coming ∷ []) row)) l.first
    (drop l.row-index l.sets)
    ≡ fold (λ first row. lesser place_of_set first (violation_of l.juniors (l.sessions ++ l.coming ∷ []) row))
    None l.sets
