use Rattle.std.specs.Prelude.{length}
use Rattle.est_kernel.specs.Interfaces.{emittable}
use Rattle.est_net.proofs.KernelOwners.{kernel_length}
use Rattle.est_net.proofs.OwnerLists.{owners_length}
use Rattle.est_net.proofs.laws.owners_are_counted.Goals as goal

pub returns : goal.returns
returns c = record {
  sheet = owners_length;
  kernel = λ k. kernel_length (emittable k.interface) (length k.interface) k.root;
}
