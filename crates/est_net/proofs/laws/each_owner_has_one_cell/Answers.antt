use Rattle.std.specs.Prelude.{length}
use Rattle.est_kernel.specs.Interfaces.{emittable}
use Rattle.est_net.proofs.KernelOwners.{no_other, one_cell, some_cell}
use Rattle.est_net.proofs.laws.each_owner_has_one_cell.Goals as goal

pub returns : goal.returns
returns c = record {
  some_cell = some_cell;
  no_other = no_other;
  one_cell = λ k. one_cell (emittable k.interface) (length k.interface) k.root;
}
