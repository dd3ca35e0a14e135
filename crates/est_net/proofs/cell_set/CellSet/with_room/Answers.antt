use Rattle.std.proofs.Common.{◌∙◌, ℕ, List, ap, length, arith}
use Rattle.std.proofs.lemmas.List.{length-replicate}
use Rattle.est_net.specs.CellSets.{marked}
use Rattle.est_net.proofs.CellSets.{none_marked}
use Rattle.est_net.proofs.cell_set.CellSet.with_room.Goals as goal

pub returns-clause-empty : goal.returns-clause-empty
returns-clause-empty c = λ i. ap (λ (l : List ℕ). marked l i) c.loop.invariant ∙ none_marked c.loop.counter i

pub returns-clause-room : goal.returns-clause-room
returns-clause-room c =
    let size = ap length c.loop.invariant ∙ length-replicate c.loop.counter 0 in
    omega (arith, size, c.loop-test.false)
