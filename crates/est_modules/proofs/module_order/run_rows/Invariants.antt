use Rattle.std.proofs.Common.{◌≡◌, map, take}
use Rattle.est_order.specs.RunRows.{rows_of}
use Rattle.est_modules.specs.Modules.{program_of}
use Rattle.est_modules.specs.ModuleOrders.{places_run}
use Rattle.est_modules.proofs.module_order.run_rows.Given as goal

abbrev pub invariant-loop-home : goal.invariant-loop-home
invariant-loop-home l = rows_of l.rows.items ≡ map (λ h. places_run (map program_of l.modules) (program_of h))
    (take l.home-index l.modules)
