-- Why modules have no order (this project's own form).
use Rattle.std.specs.Prelude.{◌≡◌, ◌⊎◌, ℕ, List, [], map, get_or}
use Rattle.est_modules.specs.Modules.{Program}
use Rattle.est_modules.specs.ModuleOrders.{run_rows}
use Rattle.est_checks.specs.declared.fault.LinkFault.{LinkFault}
use Rattle.est_checks.specs.declared.fault.LinkFault.TheVariants.{RecursiveRun, Memory}
use Rattle.est_order.specs.PlaceOrders.{IsFirstRecursive}

-- the fault of the module at a place that is recursive
abbrev pub recursive_run : List Program → ℕ → LinkFault
recursive_run ps place = RecursiveRun (get_or (map (λ (p : Program). p.name) ps) place [])

-- the fault is that of the first module from which a chain of runs leads back to it
pub record IsRecursion (ps : List Program) (fault : LinkFault) : Type 0 where
  pub place : ℕ
  pub first : IsFirstRecursive (run_rows ps) place
  pub is : fault ≡ recursive_run ps place

-- that, unless memory was refused
abbrev pub IsOrderFault : List Program → LinkFault → Type 0
IsOrderFault ps fault = (fault ≡ Memory) ⊎ IsRecursion ps fault
