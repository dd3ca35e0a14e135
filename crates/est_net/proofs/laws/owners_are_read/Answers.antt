use Rattle.std.specs.Prelude.{length}
use Rattle.est_kernel.specs.Interfaces.{emittable}
use Rattle.est_net.proofs.KernelOwners.{kernel_value}
use Rattle.est_net.proofs.OwnerValues.{owner_value}
use Rattle.est_net.proofs.laws.owners_are_read.Goals as goal

pub returns : goal.returns
returns c = record {
  sheet = λ main s i n c t f z x o. owner_value main s i n c t x f o z;
  value = λ k. kernel_value (emittable k.interface) (length k.interface) k.root;
}
