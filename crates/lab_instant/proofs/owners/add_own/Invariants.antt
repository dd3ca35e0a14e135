use Rattle.std.proofs.Common.{◌≡◌, ◌++◌}
use Rattle.est_net.specs.Owners.{own_owners}
use Rattle.lab_instant.proofs.owners.add_own.Given as goal

abbrev pub invariant-loop-offset : goal.invariant-loop-offset
invariant-loop-offset l =
    l.cells.items ≡ l.fn.cells.items ++ own_owners l.incarnation l.statement l.traps l.offset
