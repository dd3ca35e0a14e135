use Rattle.est_net.proofs.Deciding.{decided_more}
use Rattle.est_net.proofs.table.decide.Goals as goal

pub returns-clause-count : goal.returns-clause-count
returns-clause-count c =
    rw c.knowing.ensures
    (decided_more c.args.cells.now c.args.cell c.args.value c.requires)
