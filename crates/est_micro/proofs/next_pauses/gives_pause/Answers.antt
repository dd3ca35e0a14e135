use Rattle.std.proofs.Common.{ap, ◌∙◌}
use Rattle.est_cells.specs.Tables.{is_sure}
use Rattle.est_net.specs.Cells.{cell_at}
use Rattle.est_micro.proofs.Collecting.{pause_cell}
use Rattle.est_micro.proofs.next_pauses.gives_pause.Goals as goal

pub returns : goal.returns
returns c =
    pause_cell (cell_at c.args.net.now.cells.items) c.args.cell c.args.traps _
    (c.is_true.ensures ∙ ap is_sure c.status.ensures)
