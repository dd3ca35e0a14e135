use Rattle.est_net.proofs.CellSets.{no_first}
use Rattle.est_net.proofs.net.Net.has_no_true.Goals as goal

pub returns : goal.returns
returns c =
    no_first c.first_true.result c.is_none.result c.args.from c.args.past c.args.self.now.cells.items c.is_none.ensures
    c.first_true.ensures.some c.first_true.ensures.none
