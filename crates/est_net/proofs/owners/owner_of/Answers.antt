use Rattle.std.proofs.Common.{◌≡◌, ◌-◌, ◌+◌, length, true, subst, arith}
use Rattle.est_kernel.specs.Interfaces.{emittable}
use Rattle.est_net.specs.Inner.Finding.{IsAmong}
use Rattle.est_net.specs.Layout.{output_count}
use Rattle.est_net.specs.Owners.{owners_in}
use Rattle.est_net.proofs.KernelOwners.{statement_stands}
use Rattle.est_net.proofs.owners.owner_of.Goals as goal

pub returns-in-Found : goal.returns-in-Found
returns-in-Found c =
    let i = c.args.kernel.now.interface in
    let first = c.args.cell - c.in-Err.left in
    let among : IsAmong first (owners_in true c.args.kernel.now.root 0 0 0) c.args.cell c.in-Found.owner
    = subst (λ z. IsAmong first (owners_in true z 0 0 0) c.args.cell c.in-Found.owner) c.root.ensures
    c.in-Found.ensures in
    let before : output_count i + c.in-Err.left ≡ c.args.cell
    = subst (λ z. output_count z + c.in-Err.left ≡ c.args.cell) c.interface.ensures c.in-Err.ensures.after in
    statement_stands (emittable i) (length i) c.args.kernel.now.root c.args.cell (c.args.cell - first) c.in-Found.owner
    (omega arith) among.here
