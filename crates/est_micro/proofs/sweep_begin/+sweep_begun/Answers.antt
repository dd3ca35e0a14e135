use Rattle.std.proofs.Common.{ap, arith, false, ◌∙◌, ◌+◌, rules}
use Rattle.est_kernel.specs.declared.statement.Statement.TheFolds.{the_lemmas}
use Rattle.est_meaning.specs.Environments.{with_local}
use Rattle.est_meaning.specs.declared.status.Status.{Status}
use Rattle.est_meaning.specs.Views.{env_of}
use Rattle.est_cells.specs.Tables.{sheet_size}
use Rattle.est_micro.proofs.BegunNodes.{present_begun, seq_begun, par_begun, par_begun_back}
use Rattle.est_micro.proofs.BegunNodes.{suspend_begun, trap_begun, again_begun}
use Rattle.est_micro.proofs.BegunNodes.{loop_begun, local_begun, within_one, within_two, within_next, within_local}
use Rattle.est_micro.proofs.BegunNodes.{within_back, within_first, within_first_local, within_same, within_told}
use Rattle.est_micro.proofs.DecidedSheets.{read_begun}
use Rattle.est_micro.proofs.FreshCells.{changes_begun, fresh_back, fresh_codes, fresh_codes_two, fresh_idle, fresh_kept}
use Rattle.est_micro.proofs.FreshCells.{fresh_next, fresh_part, fresh_told, fresh_untold, open_of_fresh, past_begun}
use Rattle.est_micro.proofs.IdleSheets.{idle_begun}
use Rattle.est_micro.proofs.KeptExtents.{still, still_at}
use Rattle.est_micro.proofs.sweep_begin.+sweep_begun.Goals as goal

pub begin_present-returns-clause-swept : goal.begin_present-returns-clause-swept
begin_present-returns-clause-swept g t c = λ q a b asks.
    present_begun c.number_after.result c.args.at.now q a c.args.p.now b c.args.q.now c.args.gate c.args.asked _ _ _
    _ c.args.env.now _ _ _ _
    _ _
    _ _ _ asks
    c.tell_cell-go.ensures.learns c.tell_cell-go.ensures.known c.and.ensures c.opposite.ensures c.and-2.ensures
    c.sweep_begun-first.ensures.swept
    c.sweep_begun-second.ensures.swept c.either-own.ensures c.finish_statement.ensures.finished

pub begin_suspend-returns-clause-swept : goal.begin_suspend-returns-clause-swept
begin_suspend-returns-clause-swept g t c = λ q a.
    suspend_begun c.args.at.now q a c.args.p.now c.args.gate _ c.args.env.now _ _ _ _ _ _ c.tell_cell-go.ensures.learns
    c.tell_cell-go.ensures.known c.sweep_begun-body.ensures.swept c.finish_statement.ensures.finished

pub begin_seq-returns-clause-swept : goal.begin_seq-returns-clause-swept
begin_seq-returns-clause-swept g t c = λ a b.
    seq_begun c.number_after.result c.args.at.now a c.args.p.now b c.args.q.now c.args.gate _ _ c.args.env.now _ _ _
    _ _ _ _ _ _ _
    c.tell_cell-go.ensures.learns c.tell_cell-go.ensures.known c.ends-later.ensures c.with_emitted-inside.ensures
    c.sweep_begun-first.ensures.swept
    c.sweep_begun-second.ensures.swept
    c.followed-own.ensures c.finish_statement.ensures.finished

pub begin_par-returns-clause-swept : goal.begin_par-returns-clause-swept
begin_par-returns-clause-swept g t c = λ a b.
    par_begun c.number_after.result c.args.at.now a c.args.p.now b c.args.q.now c.args.gate _ c.args.env.now _ _ _ _
    _ _ _ _ _ _
    c.requires.direction c.tell_cell-go.ensures.learns c.tell_cell-go.ensures.known c.with_emitted-inside.ensures
    c.sweep_side-first.ensures.swept
    c.sweep_side-second.ensures.swept
    c.beside-own.ensures c.finish_statement.ensures.finished

pub begin_par_back-returns-clause-swept : goal.begin_par_back-returns-clause-swept
begin_par_back-returns-clause-swept g t c = λ a b.
    par_begun_back c.number_after.result c.args.at.now a c.args.p.now b c.args.q.now c.args.gate _ _ c.args.env.now _
    _ _ _ _ _ _ _ _ _
    c.requires.direction c.tell_cell-go.ensures.learns c.tell_cell-go.ensures.known c.past.ensures
    c.with_emitted-inside.ensures
    c.sweep_side-second.ensures.swept
    c.sweep_side-first.ensures.swept
    c.beside-own.ensures c.finish_statement.ensures.finished

pub begin_trap-returns-clause-swept : goal.begin_trap-returns-clause-swept
begin_trap-returns-clause-swept g t c = λ a.
    trap_begun c.args.at.now a c.args.p.now c.args.gate _ c.args.env.now _ _ _ _ _ _ _ c.tell_cell-go.ensures.learns
    c.tell_cell-go.ensures.known c.sweep_begun-body.ensures.swept c.out_of_trap-own.ensures
    c.finish_statement.ensures.finished

pub begin_again-returns-clause-swept : goal.begin_again-returns-clause-swept
begin_again-returns-clause-swept g t c = λ a.
    again_begun c.args.at.now.number (c.args.at.now.number + 1) c.args.at.now.direction c.args.at.now.main
    c.args.at.now.cell c.args.at.now.traps a c.args.p.now
    c.args.gate _
    c.args.env.now _ _ _ _ _ _
    c.requires.main c.tell_cell-go.ensures.learns c.tell_cell-go.ensures.known c.sweep_begun-body.ensures.swept
    c.finish_statement.ensures.finished

pub begin_loop-returns-clause-swept : goal.begin_loop-returns-clause-swept
begin_loop-returns-clause-swept g t c = λ a.
    loop_begun c.args.at.now.number (c.args.at.now.number + 1) c.args.at.now.direction c.args.at.now.main
    c.args.at.now.cell c.args.at.now.traps a c.args.p.now
    c.args.gate _
    c.args.env.now _ _ _ _ _ _ _ _
    _
    c.requires.main c.tell_cell-go.ensures.learns c.tell_cell-go.ensures.known c.sweep_begun-first.ensures.swept
    c.sweep_begun-again.ensures.swept
    c.emitting-own.ensures c.finish_statement.ensures.finished

pub begin_local-returns-clause-swept : goal.begin_local-returns-clause-swept
begin_local-returns-clause-swept g t c = λ a.
    local_begun c.args.at.now c.args.s a c.args.p.now c.args.gate _ _ c.args.env.now _ _ _ _ _ _ _ _ _
    c.tell_cell-go.ensures.learns c.tell_cell-go.ensures.known
    (c.set_local-inside.ensures ∙ ap (λ (v : Status). with_local (env_of c.args.env.now) c.args.s.index v)
    c.status.ensures)
    c.sweep_begun-body.ensures.swept c.status_of.ensures c.tell_cell.ensures.learns
    c.hiding-own.ensures c.finish_statement.ensures.finished

pub begin_again-finish_statement-requires-clause-within : goal.begin_again-finish_statement-requires-clause-within
begin_again-finish_statement-requires-clause-within g t c =
    within_one _ _ c.args.net.now.cells.items _ _ _ _ _ _ _ c.requires.within c.tell_cell-go.ensures.learns.size
    c.sweep_begun-body.ensures.swept

pub begin_suspend-finish_statement-requires-clause-within : goal.begin_suspend-finish_statement-requires-clause-within
begin_suspend-finish_statement-requires-clause-within g t c =
    within_one _ _ c.args.net.now.cells.items _ _ _ _ _ _ _ c.requires.within c.tell_cell-go.ensures.learns.size
    c.sweep_begun-body.ensures.swept

pub begin_trap-finish_statement-requires-clause-within : goal.begin_trap-finish_statement-requires-clause-within
begin_trap-finish_statement-requires-clause-within g t c =
    within_one _ _ c.args.net.now.cells.items _ _ _ _ _ _ _ c.requires.within c.tell_cell-go.ensures.learns.size
    c.sweep_begun-body.ensures.swept

pub begin_loop-finish_statement-requires-clause-within : goal.begin_loop-finish_statement-requires-clause-within
begin_loop-finish_statement-requires-clause-within g t c =
    within_two _ _ _ c.args.net.now.cells.items _ _ _ _ _ _ _ _ _ _ _ _ _ c.requires.within
    c.tell_cell-go.ensures.learns.size c.sweep_begun-first.ensures.swept
    c.sweep_begun-again.ensures.swept

pub begin_seq-finish_statement-requires-clause-within : goal.begin_seq-finish_statement-requires-clause-within
begin_seq-finish_statement-requires-clause-within g t c =
    within_two _ _ _ c.args.net.now.cells.items _ _ _ _ _ _ _ _ _ _ _ _ _ c.requires.within
    c.tell_cell-go.ensures.learns.size c.sweep_begun-first.ensures.swept
    c.sweep_begun-second.ensures.swept

pub begin_par-finish_statement-requires-clause-within : goal.begin_par-finish_statement-requires-clause-within
begin_par-finish_statement-requires-clause-within g t c =
    within_two _ _ _ c.args.net.now.cells.items _ _ _ _ _ _ _ _ _ _ _ _ _ c.requires.within
    c.tell_cell-go.ensures.learns.size c.sweep_side-first.ensures.swept
    c.sweep_side-second.ensures.swept

pub begin_par_back-finish_statement-requires-clause-within : goal.begin_par_back-finish_statement-requires-clause-within
begin_par_back-finish_statement-requires-clause-within g t c =
    within_two _ _ _ c.args.net.now.cells.items _ _ _ _ _ _ _ _ _ _ _ _ _ c.requires.within
    c.tell_cell-go.ensures.learns.size c.sweep_side-second.ensures.swept
    c.sweep_side-first.ensures.swept

pub begin_present-finish_statement-requires-clause-within : goal.begin_present-finish_statement-requires-clause-within
begin_present-finish_statement-requires-clause-within g t c =
    within_two _ _ _ c.args.net.now.cells.items _ _ _ _ _ _ _ _ _ _ _ _ _ c.requires.within
    c.tell_cell-go.ensures.learns.size c.sweep_begun-first.ensures.swept
    c.sweep_begun-second.ensures.swept

pub begin_local-tell_cell-requires-clause-within : goal.begin_local-tell_cell-requires-clause-within
begin_local-tell_cell-requires-clause-within g t c =
    within_local (c.args.at.now.cell + c.args.at.now.traps) _ c.args.net.now.cells.items _ _ _ _ _ _ _
    c.requires.within
    c.tell_cell-go.ensures.learns.size c.sweep_begun-body.ensures.swept

pub begin_local-finish_statement-requires-clause-within : goal.begin_local-finish_statement-requires-clause-within
begin_local-finish_statement-requires-clause-within g t c =
    within_told (c.args.at.now.cell + c.args.at.now.traps) _ c.args.net.now.cells.items _ _ _ _ _ _ _ _
    c.requires.within
    c.tell_cell-go.ensures.learns.size c.sweep_begun-body.ensures.swept c.tell_cell.ensures.learns.size

pub begin_known-returns-in-Some-clause-swept : goal.begin_known-returns-in-Some-clause-swept
begin_known-returns-in-Some-clause-swept g t c =
    idle_begun c.args.s.now c.args.at.now c.args.gate c.args.env.now c.args.net.now.cells.items _ _ _
    (rw c.in-Some.is at c.past_idle.ensures) c.fill_false.ensures.cells c.nothing.ensures.judged c.nothing.ensures.past

pub begin_known-returns-then-is_decided-clause-swept : goal.begin_known-returns-then-is_decided-clause-swept
begin_known-returns-then-is_decided-clause-swept g t c =
    read_begun c.args.s.now c.args.at.now c.args.gate c.args.env.now _ _ c.read.ensures

pub sweep_side-returns-then-is_decided-clause-swept : goal.sweep_side-returns-then-is_decided-clause-swept
sweep_side-returns-then-is_decided-clause-swept g t c =
    read_begun c.args.s.now c.args.at.now c.args.gate c.args.env.now _ _ c.read.ensures

pub begin_present-sweep_begun-first-requires : goal.begin_present-sweep_begun-first-requires
begin_present-sweep_begun-first-requires g t c κs bound = (
  search (rules, the_lemmas),
  (
    bound,
    (
      c.requires.fits.0,
      (
        still _ _ _ _ _ c.tell_cell-go.ensures.kept c.requires.first_extents,
        (
          within_first _ _ _ c.args.net.now.cells.items _ c.requires.within c.tell_cell-go.ensures.learns.size,
          (
            fresh_told _ c.args.at.now.cell _ _ _ _ _ _ _ c.tell_cell-go.ensures.learns (omega arith) (omega arith)
                (omega arith) c.requires.fresh,
            c.requires.first_traps,
          ),
        ),
      ),
    ),
  ),
)

pub begin_present-sweep_begun-second-requires : goal.begin_present-sweep_begun-second-requires
begin_present-sweep_begun-second-requires g t c κs bound = (
  search (rules, the_lemmas),
  (
    bound,
    (
      c.requires.fits.1,
      (
        still_at _ _ _ _ _ _ c.number_after.ensures (c.sweep_begun-first.ensures.kept ∙ c.tell_cell-go.ensures.kept)
            c.requires.second_extents,
        (
          within_next c.args.net.now.cells.items _ _ _ _ _ _ _ _ c.sweep_begun-first.ensures.swept c.requires.within
              c.tell_cell-go.ensures.learns.size,
          (
            fresh_next _ c.args.at.now.cell _ _ _ _ _ _ _ _ c.tell_cell-go.ensures.learns
                (changes_begun _ _ _ _ _ _ _ c.sweep_begun-first.ensures.swept)
                (past_begun _ _ _ _ _ _ _ c.sweep_begun-first.ensures.swept) (omega arith) c.requires.fresh,
            c.requires.second_traps,
          ),
        ),
      ),
    ),
  ),
)

pub begin_seq-sweep_begun-first-requires : goal.begin_seq-sweep_begun-first-requires
begin_seq-sweep_begun-first-requires g t c κs bound = (
  search (rules, the_lemmas),
  (
    bound,
    (
      c.requires.fits.0,
      (
        still _ _ _ _ _ c.tell_cell-go.ensures.kept c.requires.first_extents,
        (
          within_first _ _ _ c.args.net.now.cells.items _ c.requires.within c.tell_cell-go.ensures.learns.size,
          (
            fresh_told _ c.args.at.now.cell _ _ _ _ _ _ _ c.tell_cell-go.ensures.learns (omega arith) (omega arith)
                (omega arith) c.requires.fresh,
            c.requires.first_traps,
          ),
        ),
      ),
    ),
  ),
)

pub begin_seq-sweep_begun-second-requires : goal.begin_seq-sweep_begun-second-requires
begin_seq-sweep_begun-second-requires g t c κs bound = (
  search (rules, the_lemmas),
  (
    bound,
    (
      c.requires.fits.1,
      (
        still_at _ _ _ _ _ _ c.number_after.ensures (c.sweep_begun-first.ensures.kept ∙ c.tell_cell-go.ensures.kept)
            c.requires.second_extents,
        (
          within_next c.args.net.now.cells.items _ _ _ _ _ _ _ _ c.sweep_begun-first.ensures.swept c.requires.within
              c.tell_cell-go.ensures.learns.size,
          (
            fresh_next _ c.args.at.now.cell _ _ _ _ _ _ _ _ c.tell_cell-go.ensures.learns
                (changes_begun _ _ _ _ _ _ _ c.sweep_begun-first.ensures.swept)
                (past_begun _ _ _ _ _ _ _ c.sweep_begun-first.ensures.swept) (omega arith) c.requires.fresh,
            c.requires.second_traps,
          ),
        ),
      ),
    ),
  ),
)

pub begin_suspend-sweep_begun-body-requires : goal.begin_suspend-sweep_begun-body-requires
begin_suspend-sweep_begun-body-requires g t c κs bound = (
  search (rules, the_lemmas),
  (
    bound,
    (
      c.requires.fits,
      (
        still _ _ _ _ _ c.tell_cell-go.ensures.kept c.requires.extents,
        (
          within_same _ c.args.net.now.cells.items _ c.requires.within c.tell_cell-go.ensures.learns.size,
          (
            fresh_told _ c.args.at.now.cell _ _ _ _ _ _ _ c.tell_cell-go.ensures.learns (omega arith) (omega arith)
                (omega arith) c.requires.fresh,
            c.requires.traps,
          ),
        ),
      ),
    ),
  ),
)

pub begin_trap-sweep_begun-body-requires : goal.begin_trap-sweep_begun-body-requires
begin_trap-sweep_begun-body-requires g t c κs bound = (
  search (rules, the_lemmas),
  (
    bound,
    (
      c.requires.fits,
      (
        still _ _ _ _ _ c.tell_cell-go.ensures.kept c.requires.extents,
        (
          within_same _ c.args.net.now.cells.items _ c.requires.within c.tell_cell-go.ensures.learns.size,
          (
            fresh_told _ c.args.at.now.cell _ _ _ _ _ _ _ c.tell_cell-go.ensures.learns (omega arith) (omega arith)
                (omega arith) c.requires.fresh,
            c.requires.traps,
          ),
        ),
      ),
    ),
  ),
)

pub begin_local-sweep_begun-body-requires : goal.begin_local-sweep_begun-body-requires
begin_local-sweep_begun-body-requires g t c κs bound = (
  search (rules, the_lemmas),
  (
    bound,
    (
      c.requires.fits.1,
      (
        still _ _ _ _ _ c.tell_cell-go.ensures.kept c.requires.extents,
        (
          within_first_local (c.args.at.now.cell + c.args.at.now.traps) _ c.args.net.now.cells.items _ c.requires.within
              c.tell_cell-go.ensures.learns.size,
          (
            fresh_told _ c.args.at.now.cell _ _ _ _ _ _ _ c.tell_cell-go.ensures.learns (omega arith) (omega arith)
                (omega arith) c.requires.fresh,
            c.requires.traps,
          ),
        ),
      ),
    ),
  ),
)

pub begin_again-sweep_begun-body-requires : goal.begin_again-sweep_begun-body-requires
begin_again-sweep_begun-body-requires g t c κs bound = (
  search (rules, the_lemmas),
  (
    bound,
    (
      c.requires.fits,
      (
        still _ _ _ _ _ c.tell_cell-go.ensures.kept c.requires.extents,
        (
          within_same
              (c.args.at.now.cell + c.args.at.now.traps + 3
              + (sheet_size c.args.at.now.main c.args.p.now c.args.at.now.traps)) c.args.net.now.cells.items _
              (rw c.requires.main c.requires.within) c.tell_cell-go.ensures.learns.size,
          (
            fresh_told _ c.args.at.now.cell c.args.at.now.cell
                (c.args.at.now.cell + c.args.at.now.traps + 3 +
                (sheet_size c.args.at.now.main c.args.p.now c.args.at.now.traps)) _ _ _ _ _
                c.tell_cell-go.ensures.learns (omega arith) (omega arith) (omega arith)
                (rw c.requires.main c.requires.fresh),
            c.requires.traps,
          ),
        ),
      ),
    ),
  ),
)

pub begin_loop-sweep_begun-first-requires : goal.begin_loop-sweep_begun-first-requires
begin_loop-sweep_begun-first-requires g t c κs bound = (
  search (rules, the_lemmas),
  (
    bound,
    (
      c.requires.fits,
      (
        still _ _ _ _ _ c.tell_cell-go.ensures.kept c.requires.extents,
        (
          within_first (c.args.at.now.cell + c.args.at.now.traps + 3)
              (sheet_size c.args.at.now.main c.args.p.now c.args.at.now.traps)
              (sheet_size false c.args.p.now c.args.at.now.traps) c.args.net.now.cells.items _
              (rw c.requires.main c.requires.within) c.tell_cell-go.ensures.learns.size,
          (
            fresh_told _ c.args.at.now.cell c.args.at.now.cell
                (c.args.at.now.cell + c.args.at.now.traps + 3 +
                (sheet_size c.args.at.now.main c.args.p.now c.args.at.now.traps)
                + (sheet_size false c.args.p.now c.args.at.now.traps)) _ _ _ _ _ c.tell_cell-go.ensures.learns
                (omega arith) (omega arith) (omega arith) (rw c.requires.main c.requires.fresh),
            c.requires.traps,
          ),
        ),
      ),
    ),
  ),
)

pub begin_loop-sweep_begun-again-requires : goal.begin_loop-sweep_begun-again-requires
begin_loop-sweep_begun-again-requires g t c κs bound = (
  search (rules, the_lemmas),
  (
    bound,
    (
      c.requires.fits,
      (
        still _ _ _ _ _ (c.sweep_begun-first.ensures.kept ∙ c.tell_cell-go.ensures.kept) c.requires.extents,
        (
          within_next c.args.net.now.cells.items _ _ _ _ _ _ _ _ c.sweep_begun-first.ensures.swept
              (rw c.requires.main c.requires.within) c.tell_cell-go.ensures.learns.size,
          (
            fresh_next _ c.args.at.now.cell (c.args.at.now.cell + c.args.at.now.traps + 3)
                (sheet_size c.args.at.now.main c.args.p.now c.args.at.now.traps)
                (sheet_size false c.args.p.now c.args.at.now.traps) _ _ _ _ _ c.tell_cell-go.ensures.learns
                (changes_begun _ _ _ _ _ _ _ c.sweep_begun-first.ensures.swept)
                (past_begun _ _ _ _ _ _ _ c.sweep_begun-first.ensures.swept) (omega arith)
                (rw c.requires.main c.requires.fresh),
            c.requires.traps,
          ),
        ),
      ),
    ),
  ),
)

pub begin_par-sweep_side-first-requires : goal.begin_par-sweep_side-first-requires
begin_par-sweep_side-first-requires g t c κs bound = (
  search (rules, the_lemmas),
  (
    bound,
    (
      c.requires.fits.0,
      (
        still _ _ _ _ _ c.tell_cell-go.ensures.kept c.requires.first_extents,
        (
          within_first _ _ _ c.args.net.now.cells.items _ c.requires.within c.tell_cell-go.ensures.learns.size,
          (
            fresh_told _ c.args.at.now.cell _ _ _ _ _ _ _ c.tell_cell-go.ensures.learns (omega arith) (omega arith)
                (omega arith) c.requires.fresh,
            c.requires.first_traps,
          ),
        ),
      ),
    ),
  ),
)

pub begin_par-sweep_side-second-requires : goal.begin_par-sweep_side-second-requires
begin_par-sweep_side-second-requires g t c κs bound = (
  search (rules, the_lemmas),
  (
    bound,
    (
      c.requires.fits.1,
      (
        still_at _ _ _ _ _ _ c.number_after.ensures (c.sweep_side-first.ensures.kept ∙ c.tell_cell-go.ensures.kept)
            c.requires.second_extents,
        (
          within_next c.args.net.now.cells.items _ _ _ _ _ _ _ _ c.sweep_side-first.ensures.swept c.requires.within
              c.tell_cell-go.ensures.learns.size,
          (
            fresh_next _ c.args.at.now.cell _ _ _ _ _ _ _ _ c.tell_cell-go.ensures.learns
                (changes_begun _ _ _ _ _ _ _ c.sweep_side-first.ensures.swept)
                (past_begun _ _ _ _ _ _ _ c.sweep_side-first.ensures.swept) (omega arith) c.requires.fresh,
            c.requires.second_traps,
          ),
        ),
      ),
    ),
  ),
)

pub begin_par_back-sweep_side-second-requires : goal.begin_par_back-sweep_side-second-requires
begin_par_back-sweep_side-second-requires g t c κs bound = (
  search (rules, the_lemmas),
  (
    bound,
    (
      c.requires.fits.1,
      (
        still_at _ _ _ _ _ _ c.number_after.ensures c.tell_cell-go.ensures.kept c.requires.second_extents,
        (
          within_back _ _ _ _ c.args.net.now.cells.items _ c.past.ensures c.requires.within
              c.tell_cell-go.ensures.learns.size,
          (
            fresh_back _ c.args.at.now.cell _ _ _ _ _ _ _ c.tell_cell-go.ensures.learns c.past.ensures
                (omega arith) c.requires.fresh,
            c.requires.second_traps,
          ),
        ),
      ),
    ),
  ),
)

pub begin_par_back-sweep_side-first-requires : goal.begin_par_back-sweep_side-first-requires
begin_par_back-sweep_side-first-requires g t c κs bound = (
  search (rules, the_lemmas),
  (
    bound,
    (
      c.requires.fits.0,
      (
        still _ _ _ _ _ (c.sweep_side-second.ensures.kept ∙ c.tell_cell-go.ensures.kept) c.requires.first_extents,
        (
          within_one _ _ c.args.net.now.cells.items _ _ _ _ _ _ _ c.requires.within c.tell_cell-go.ensures.learns.size
              c.sweep_side-second.ensures.swept,
          (
            fresh_kept _ c.args.at.now.cell _ _ _ _ _ _ _ _ _ c.tell_cell-go.ensures.learns
                (changes_begun _ _ _ _ _ _ _ c.sweep_side-second.ensures.swept) (omega arith)
                (let e = c.past.ensures in omega (arith, e)) (omega arith) c.requires.fresh,
            c.requires.first_traps,
          ),
        ),
      ),
    ),
  ),
)

pub begin_suspend-finish_statement-requires-clause-fresh : goal.begin_suspend-finish_statement-requires-clause-fresh
begin_suspend-finish_statement-requires-clause-fresh g t c =
    fresh_codes _ c.args.at.now.cell _ _ _ _ _ _ _ _ c.tell_cell-go.ensures.learns
    (changes_begun _ _ _ _ _ _ _ c.sweep_begun-body.ensures.swept)
    (omega arith) (omega arith) c.requires.fresh

pub begin_trap-finish_statement-requires-clause-fresh : goal.begin_trap-finish_statement-requires-clause-fresh
begin_trap-finish_statement-requires-clause-fresh g t c =
    fresh_codes _ c.args.at.now.cell _ _ _ _ _ _ _ _ c.tell_cell-go.ensures.learns
    (changes_begun _ _ _ _ _ _ _ c.sweep_begun-body.ensures.swept)
    (omega arith) (omega arith) c.requires.fresh

pub begin_again-finish_statement-requires-clause-fresh : goal.begin_again-finish_statement-requires-clause-fresh
begin_again-finish_statement-requires-clause-fresh g t c =
    fresh_codes _ c.args.at.now.cell _ _ _ _ _ _ _ _ c.tell_cell-go.ensures.learns
    (changes_begun _ _ _ _ _ _ _ c.sweep_begun-body.ensures.swept)
    (omega arith) (omega arith) c.requires.fresh

pub begin_present-finish_statement-requires-clause-fresh : goal.begin_present-finish_statement-requires-clause-fresh
begin_present-finish_statement-requires-clause-fresh g t c =
    let e = past_begun _ _ _ _ _ _ _ c.sweep_begun-first.ensures.swept in
    fresh_codes_two _ c.args.at.now.cell _ _ _ _ _ _ _ _ _ _ _ c.tell_cell-go.ensures.learns
    (changes_begun _ _ _ _ _ _ _ c.sweep_begun-first.ensures.swept)
    (changes_begun _ _ _ _ _ _ _ c.sweep_begun-second.ensures.swept) (omega arith) (omega (arith, e))
    (omega arith) c.requires.fresh

pub begin_seq-finish_statement-requires-clause-fresh : goal.begin_seq-finish_statement-requires-clause-fresh
begin_seq-finish_statement-requires-clause-fresh g t c =
    let e = past_begun _ _ _ _ _ _ _ c.sweep_begun-first.ensures.swept in
    fresh_codes_two _ c.args.at.now.cell _ _ _ _ _ _ _ _ _ _ _ c.tell_cell-go.ensures.learns
    (changes_begun _ _ _ _ _ _ _ c.sweep_begun-first.ensures.swept)
    (changes_begun _ _ _ _ _ _ _ c.sweep_begun-second.ensures.swept) (omega arith) (omega (arith, e))
    (omega arith) c.requires.fresh

pub begin_loop-finish_statement-requires-clause-fresh : goal.begin_loop-finish_statement-requires-clause-fresh
begin_loop-finish_statement-requires-clause-fresh g t c =
    let e = past_begun _ _ _ _ _ _ _ c.sweep_begun-first.ensures.swept in
    fresh_codes_two _ c.args.at.now.cell _ _ _ _ _ _ _ _ _ _ _ c.tell_cell-go.ensures.learns
    (changes_begun _ _ _ _ _ _ _ c.sweep_begun-first.ensures.swept)
    (changes_begun _ _ _ _ _ _ _ c.sweep_begun-again.ensures.swept) (omega arith) (omega (arith, e))
    (omega arith) c.requires.fresh

pub begin_par-finish_statement-requires-clause-fresh : goal.begin_par-finish_statement-requires-clause-fresh
begin_par-finish_statement-requires-clause-fresh g t c =
    let e = past_begun _ _ _ _ _ _ _ c.sweep_side-first.ensures.swept in
    fresh_codes_two _ c.args.at.now.cell _ _ _ _ _ _ _ _ _ _ _ c.tell_cell-go.ensures.learns
    (changes_begun _ _ _ _ _ _ _ c.sweep_side-first.ensures.swept)
    (changes_begun _ _ _ _ _ _ _ c.sweep_side-second.ensures.swept) (omega arith) (omega (arith, e))
    (omega arith) c.requires.fresh

pub begin_par_back-finish_statement-requires-clause-fresh : goal.begin_par_back-finish_statement-requires-clause-fresh
begin_par_back-finish_statement-requires-clause-fresh g t c =
    let e = c.past.ensures in
    fresh_codes_two _ c.args.at.now.cell _ _ _ _ _ _ _ _ _ _ _ c.tell_cell-go.ensures.learns
    (changes_begun _ _ _ _ _ _ _ c.sweep_side-second.ensures.swept)
    (changes_begun _ _ _ _ _ _ _ c.sweep_side-first.ensures.swept) (omega (arith, e)) (omega arith)
    (omega arith) c.requires.fresh

pub begin_local-tell_cell-requires-clause-fresh : goal.begin_local-tell_cell-requires-clause-fresh
begin_local-tell_cell-requires-clause-fresh g t c =
    fresh_kept _ c.args.at.now.cell _ _ _ _ _ _ _ _ _ c.tell_cell-go.ensures.learns
    (changes_begun _ _ _ _ _ _ _ c.sweep_begun-body.ensures.swept) (omega arith) (omega arith) (omega arith)
    c.requires.fresh

pub begin_local-finish_statement-requires-clause-fresh : goal.begin_local-finish_statement-requires-clause-fresh
begin_local-finish_statement-requires-clause-fresh g t c =
    fresh_untold _ _ _ _ _ _ _ c.tell_cell.ensures.learns (omega arith)
    (fresh_codes _ c.args.at.now.cell _ _ _ _ _ _ _ _ c.tell_cell-go.ensures.learns
    (changes_begun _ _ _ _ _ _ _ c.sweep_begun-body.ensures.swept) (omega arith) (omega arith) c.requires.fresh)

pub begin_present-tell_cell-go-requires-clause-fresh : goal.begin_present-tell_cell-go-requires-clause-fresh
begin_present-tell_cell-go-requires-clause-fresh g t c =
    fresh_part _ _ _ _ _ _ (omega arith) (omega arith) c.requires.fresh

pub begin_suspend-tell_cell-go-requires-clause-fresh : goal.begin_suspend-tell_cell-go-requires-clause-fresh
begin_suspend-tell_cell-go-requires-clause-fresh g t c =
    fresh_part _ _ _ _ _ _ (omega arith) (omega arith) c.requires.fresh

pub begin_seq-tell_cell-go-requires-clause-fresh : goal.begin_seq-tell_cell-go-requires-clause-fresh
begin_seq-tell_cell-go-requires-clause-fresh g t c =
    fresh_part _ _ _ _ _ _ (omega arith) (omega arith) c.requires.fresh

pub begin_loop-tell_cell-go-requires-clause-fresh : goal.begin_loop-tell_cell-go-requires-clause-fresh
begin_loop-tell_cell-go-requires-clause-fresh g t c =
    fresh_part _ _ _ _ _ _ (omega arith) (omega arith) c.requires.fresh

pub begin_again-tell_cell-go-requires-clause-fresh : goal.begin_again-tell_cell-go-requires-clause-fresh
begin_again-tell_cell-go-requires-clause-fresh g t c =
    fresh_part _ _ _ _ _ _ (omega arith) (omega arith) c.requires.fresh

pub begin_par-tell_cell-go-requires-clause-fresh : goal.begin_par-tell_cell-go-requires-clause-fresh
begin_par-tell_cell-go-requires-clause-fresh g t c =
    fresh_part _ _ _ _ _ _ (omega arith) (omega arith) c.requires.fresh

pub begin_par_back-tell_cell-go-requires-clause-fresh : goal.begin_par_back-tell_cell-go-requires-clause-fresh
begin_par_back-tell_cell-go-requires-clause-fresh g t c =
    fresh_part _ _ _ _ _ _ (omega arith) (omega arith) c.requires.fresh

pub begin_trap-tell_cell-go-requires-clause-fresh : goal.begin_trap-tell_cell-go-requires-clause-fresh
begin_trap-tell_cell-go-requires-clause-fresh g t c =
    fresh_part _ _ _ _ _ _ (omega arith) (omega arith) c.requires.fresh

pub begin_local-tell_cell-go-requires-clause-fresh : goal.begin_local-tell_cell-go-requires-clause-fresh
begin_local-tell_cell-go-requires-clause-fresh g t c =
    fresh_part _ _ _ _ _ _ (omega arith) (omega arith) c.requires.fresh

pub sweep_begun-fill-requires-clause-open : goal.sweep_begun-fill-requires-clause-open
sweep_begun-fill-requires-clause-open g t c =
    let e = c.past-past.ensures in
    open_of_fresh _ _ _ _ (search rules)
    (fresh_part _ _ _ _ _ _ (omega arith) (omega (arith, e)) c.requires.fresh)

pub sweep_begun-returns-in-Absent-clause-swept : goal.sweep_begun-returns-in-Absent-clause-swept
sweep_begun-returns-in-Absent-clause-swept g t c =
    let e = c.past-past.ensures in
    idle_begun c.args.s.now c.args.at.now c.args.gate c.args.env.now c.args.net.now.cells.items _ _ _
    (fresh_idle _ _ _ _ _ c.in-Absent.is e
    (open_of_fresh _ _ _ _ (search rules)
    (fresh_part _ _ _ _ _ _ (omega arith) (omega (arith, e)) c.requires.fresh)))
    c.fill.ensures.cells c.nothing.ensures.judged c.nothing.ensures.past
