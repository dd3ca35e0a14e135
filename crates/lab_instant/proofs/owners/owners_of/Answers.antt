use Rattle.std.proofs.Common.{◌∙◌, ◌++◌, List, ap, true}
use Rattle.est_kernel.specs.declared.statement.Statement.{Statement}
use Rattle.est_net.specs.Owners.{owners_in}
use Rattle.est_net.specs.declared.owners.StatementCell.{StatementCell}
use Rattle.lab_instant.proofs.owners.owners_of.Goals as goal

pub returns : goal.returns
returns c =
    c.in_ok-add.ensures.added
    ∙ (ap (λ (l : List StatementCell). l ++ owners_in true c.root.result.now 0 0 0) c.new-cells.ensures.items
    ∙ ap (λ (s : Statement). owners_in true s 0 0 0) c.root.ensures)
