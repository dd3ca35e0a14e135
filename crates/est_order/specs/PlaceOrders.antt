-- Orders of modules in which each stands after those that it runs (a topological order; Knuth, The Art of Computer
-- Programming, 2.2.3).
use Rattle.std.specs.Prelude.{ℕ, ◌<◌, ⊤, List, length, slice_index, IsPermutation}
use Rattle.std.specs.List.{range_with_len}
use Rattle.est_order.specs.RunRows.{IsRun, IsRecursive}
use Rattle.est_order.specs.declared.order_fault.OrderFault.{OrderFault}
use Rattle.est_order.specs.declared.order_fault.OrderFault.TheVariants.{Recursive, Memory}

-- each place once, and each module after all that it runs
pub record IsBottomUp (rows : List (List ℕ)) (order : List ℕ) : Type 0 where
  pub each_once : IsPermutation (range_with_len 0 (length rows)) order
  pub after_runs : (i j : ℕ) → i < length order → j < length order
      → IsRun rows (slice_index order i) (slice_index order j) → j < i

-- the module is recursive, and none before it is
pub record IsFirstRecursive (rows : List (List ℕ)) (place : ℕ) : Type 0 where
  pub there : place < length rows
  pub recursive : IsRecursive rows place
  pub first : (before : ℕ) → before < place → IsRecursive rows before → ⊥

-- no module is recursive
abbrev pub NoneIsRecursive : List (List ℕ) → Type 0
NoneIsRecursive rows = (place : ℕ) → IsRecursive rows place → ⊥

-- the fault is that of the modules, unless memory was refused
abbrev pub IsFaultOf : List (List ℕ) → OrderFault → Type 0
IsFaultOf rows (Recursive place) = IsFirstRecursive rows place
IsFaultOf rows Memory = ⊤
