use Rattle.std.proofs.Common.{◌≡◌, drop, fold}
use Rattle.std.specs.Prelude.{None}
use Rattle.rbac_policy.specs.Inner.SetTables.{place_of_row, set_with}
use Rattle.rbac_policy.specs.Inner.Violations.{lesser}
use Rattle.rbac_policy.proofs.separation_sets.first_set_with.Given as goal

abbrev pub invariant-loop-row : goal.invariant-loop-row
invariant-loop-row l =
    fold (λ first row. lesser place_of_row first (set_with l.place row)) l.first (drop l.row-index l.sets)
    ≡ fold (λ first row. lesser place_of_row first (set_with l.place row)) None l.sets
