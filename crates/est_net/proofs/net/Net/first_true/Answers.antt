use Rattle.est_net.specs.CellSets.{marked}
use Rattle.est_net.specs.Cells.{true_at}
use Rattle.est_net.proofs.CellSets.{are_true, same_first, same_none}
use Rattle.est_net.proofs.net.Net.first_true.Goals as goal

pub returns-clause-some : goal.returns-clause-some
returns-clause-some c =
    let words = c.args.self.now.true_cells.words.items in
    let cells = c.args.self.now.cells.items in
    same_first (marked words) (true_at cells) c.args.from c.args.past c.first_in.result
    (are_true words cells c.args.self.now.marks) c.first_in.ensures.some

pub returns-clause-none : goal.returns-clause-none
returns-clause-none c =
    let words = c.args.self.now.true_cells.words.items in
    let cells = c.args.self.now.cells.items in
    same_none (marked words) (true_at cells) c.args.from c.args.past c.first_in.result
    (are_true words cells c.args.self.now.marks) c.first_in.ensures.none
