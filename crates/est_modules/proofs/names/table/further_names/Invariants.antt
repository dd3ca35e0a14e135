use Rattle.std.proofs.Common.{◌≡◌, true, codes}
use Rattle.est_modules.specs.Visible.{stands_in}
use Rattle.est_modules.proofs.names.table.further_names.Given as goal

abbrev pub invariant-loop-home : goal.invariant-loop-home
invariant-loop-home l = stands_in l.names.items (codes "tick") ≡ true
