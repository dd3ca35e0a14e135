use Rattle.std.proofs.Common.{◌≡◌, ℕ, List, drop, not}
use Rattle.std.specs.List.{list_any}
use Rattle.est_modules.specs.NameSets.{has}
use Rattle.est_checks.proofs.lawless_relations.are_over_outputs.Given as goal

abbrev pub invariant-loop-name : goal.invariant-loop-name
invariant-loop-name l =
    let some = list_any (λ (n : List ℕ). not (has l.offered n)) in
    some l.names ≡ some (drop l.name-index l.names)
