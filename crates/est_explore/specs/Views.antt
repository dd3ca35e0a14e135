-- The module that a search is given (this project's own form).
use Rattle.std.specs.Prelude.{ℕ, List}
use Rattle.est_kernel.specs.Bits.{bits}
use Rattle.est_kernel.specs.declared.kernel.Kernel.{Kernel}
use Rattle.est_relations.specs.declared.relations.Relation.{Relation}
use Rattle.est_explore.specs.Runs.{Module}

-- the module of this kernel with these relations, whose inputs are among those of a mask
abbrev pub module_of : Kernel → List Relation → (allowed : ℕ) → Module
module_of kernel relations allowed = record { kernel = kernel; relations = relations; allowed = bits allowed }
