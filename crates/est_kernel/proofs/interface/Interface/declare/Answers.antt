use Rattle.std.proofs.Common.{◌≡◌, ◌<◌, length, arith, length-append, false}
use Rattle.std.specs.List.{list_any}
use Rattle.est_kernel.specs.declared.interface.TheConstants.{MOST_SIGNALS}
use Rattle.est_kernel.specs.Interfaces.{is_named}
use Rattle.est_kernel.proofs.Interfaces.{distinct_push}
use Rattle.est_kernel.proofs.interface.Interface.declare.Goals as goal

pub invariant_of-self-2 : goal.invariant_of-self-2
invariant_of-self-2 c =
    let items = c.self.inside.declarations.items in
    let room : length items < MOST_SIGNALS = rw c.self.view_is c.requires.room in
    let fresh : list_any (is_named c.args.declaration.name) items ≡ false = rw c.self.view_is c.requires.new_name in
    rw c.in_ok-push.ensures.items (
      simp length-append (omega arith),
      distinct_push _ items c.args.declaration c.self.invariant.1 fresh,
    )
