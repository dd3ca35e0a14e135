use Rattle.std.proofs.Common.{ap, arith, refl, ◌∙◌}
use Rattle.est_net.specs.Cells.{is_open}
use Rattle.est_net.proofs.Ranges.{all_opened, open_more}
use Rattle.est_net.proofs.table.all_open.Goals as goal

pub loop-cell-init : goal.loop-cell-init
loop-cell-init c = (λ h. all_opened c.args.from c.args.cells.now, λ h. refl)

pub loop-cell-preserved : goal.loop-cell-preserved
loop-cell-preserved c =
    open_more c.args.from c.loop-cell.cell c.args.cells.now c.loop-cell.all _ _ (omega arith)
    c.loop-cell.invariant (c.is_open.ensures ∙ ap is_open c.read.ensures) c.both-all.ensures
