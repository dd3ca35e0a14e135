use Rattle.std.proofs.Common.{ℕ, subst}
use Rattle.est_net.specs.Cells.{AllOpen}
use Rattle.est_micro.proofs.FreshCells.{fresh_not, fresh_of_open}
use Rattle.est_micro.proofs.lead.lead_part.Goals as goal

pub sweep_by-requires-clause-fresh : goal.sweep_by-requires-clause-fresh
sweep_by-requires-clause-fresh c =
    fresh_of_open _ _ _ _ (subst (λ (z : ℕ). AllOpen c.args.part.now.place.cell z c.args.net.now.cells.items)
    c.past.ensures (c.all_open.ensures.0 c.if-all_open.true))

pub sweep_by-requires-else-all_open-clause-fresh : goal.sweep_by-requires-else-all_open-clause-fresh
sweep_by-requires-else-all_open-clause-fresh c = fresh_not _ _ _
