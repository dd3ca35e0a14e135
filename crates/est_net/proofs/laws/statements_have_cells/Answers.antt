use Rattle.std.specs.Prelude.{length}
use Rattle.est_kernel.specs.Interfaces.{emittable}
use Rattle.est_net.proofs.KernelOwners.{kernel_counts}
use Rattle.est_net.proofs.laws.statements_have_cells.Goals as goal

pub returns : goal.returns
returns c = record { cells = λ k. kernel_counts (emittable k.interface) (length k.interface) k.root }
