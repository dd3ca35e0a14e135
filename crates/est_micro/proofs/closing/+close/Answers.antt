use Rattle.std.proofs.Common.{ℕ, rules, arith, refl, subst, sym}
use Rattle.est_kernel.specs.declared.statement.Statement.TheFolds.{the_lemmas}
use Rattle.est_net.specs.Extents.{HasExtents}
use Rattle.est_micro.proofs.BegunNodes.{within_back}
use Rattle.est_micro.proofs.ClosedSides.{beside_of, par_closed}
use Rattle.est_micro.proofs.Frames.{size_least}
use Rattle.est_micro.proofs.FreshCells.{fresh_not}
use Rattle.est_micro.proofs.closing.+close.Goals as goal

pub close-returns-in-Par-clause-closes : goal.close-returns-in-Par-clause-closes
close-returns-in-Par-clause-closes t c =
    rw (c.in-Par.is, sym c.deref.ensures, sym c.deref-in-Par.ensures) (c.close_par.ensures.closes _ _)

pub close_par-close-requires : goal.close_par-close-requires
close_par-close-requires t c = (
  search (rules, the_lemmas),
  (
    subst (λ (n : ℕ). HasExtents c.args.net.now.extents.items n c.args.top.now.traps c.args.q.now)
        (sym c.number_after-next_number.ensures) c.requires.second_extents,
    (
      within_back _ _ _ _ c.args.net.now.cells.items _ c.past-next_cell.ensures c.requires.within refl,
      c.requires.few,
    ),
  ),
)

pub close_par-read_codes-requires-clause-within : goal.close_par-read_codes-requires-clause-within
close_par-read_codes-requires-clause-within t c =
    let least = size_least c.args.top.now.main c.args.p.now c.args.top.now.traps in
    let size = c.close.ensures.closes.changes.size in
    omega (arith, c.requires.within)

pub close_par-tell_cell-requires-clause-fresh : goal.close_par-tell_cell-requires-clause-fresh
close_par-tell_cell-requires-clause-fresh t c = fresh_not _ _ _

pub close_par-tell-requires-clause-fresh : goal.close_par-tell-requires-clause-fresh
close_par-tell-requires-clause-fresh t c = fresh_not _ _ _

pub close_par-returns-clause-closes : goal.close_par-returns-clause-closes
close_par-returns-clause-closes t c = λ a b.
    par_closed c.args.top.now.main a c.args.p.now b c.args.q.now c.args.cell c.args.top.now.traps _ c.args.gate
    c.args.net.now.cells.items _ _ _ c.read_codes.result c.close.result c.beside-own.result
    c.past-next_cell.ensures c.close.ensures.closes
    (record { sure = c.read_codes.ensures.sure; possible = c.read_codes.ensures.possible })
    (record { sure = c.close.ensures.sure; possible = c.close.ensures.possible })
    c.tell_cell.ensures.learns
    (beside_of c.judged_by-first.ensures c.judged_by-second.ensures c.beside-own.ensures) c.tell.ensures.told
