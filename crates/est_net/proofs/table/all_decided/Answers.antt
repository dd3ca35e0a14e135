use Rattle.std.proofs.Common.{ap, arith, refl, ◌∙◌}
use Rattle.est_net.specs.Cells.{is_known}
use Rattle.est_net.proofs.Ranges.{all_known, known_more}
use Rattle.est_net.proofs.table.all_decided.Goals as goal

pub loop-cell-init : goal.loop-cell-init
loop-cell-init c = (λ h. all_known c.args.from c.args.cells.now, λ h. refl)

pub loop-cell-preserved : goal.loop-cell-preserved
loop-cell-preserved c =
    known_more c.args.from c.loop-cell.cell c.args.cells.now c.loop-cell.all _ _ (omega arith)
    c.loop-cell.invariant (c.is_decided.ensures ∙ ap is_known c.read.ensures) c.both-all.ensures
