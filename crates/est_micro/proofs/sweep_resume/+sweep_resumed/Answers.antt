use Rattle.std.proofs.Common.{ap, arith, false, refl, rules, sym, true, ◌∙◌, ◌+◌}
use Rattle.est_kernel.specs.declared.statement.Statement.TheFolds.{the_lemmas}
use Rattle.est_kernel.specs.CodeViews.{codes_of}
use Rattle.est_meaning.specs.Environments.{verdict, with_local}
use Rattle.est_cells.specs.Tables.{sheet_size}
use Rattle.est_meaning.specs.declared.status.Status.{Status}
use Rattle.est_meaning.specs.declared.status.Status.TheVariants.{Absent}
use Rattle.est_meaning.specs.Views.{env_of}
use Rattle.est_micro.proofs.BegunNodes.{within_after, within_back, within_first, within_first_local, within_same}
use Rattle.est_micro.proofs.BegunNodes.{part_at, within_two_same}
use Rattle.est_micro.proofs.DecidedSheets.{read_resumed}
use Rattle.est_micro.proofs.FreshCells.{changes_begun, changes_resumed, fresh_back, fresh_codes, fresh_codes_two}
use Rattle.est_micro.proofs.FreshCells.{absent_told, fresh_kept, fresh_next, fresh_part, fresh_told, fresh_untold}
use Rattle.est_micro.proofs.FreshCells.{open_of_fresh, over_begun, past_begun, past_resumed}
use Rattle.est_micro.proofs.KeptExtents.{still, still_at}
use Rattle.est_micro.proofs.ResumedNodes.{present_resumed, seq_resumed, par_resumed, par_resumed_back}
use Rattle.est_micro.proofs.ResumedNodes.{suspend_resumed, trap_resumed}
use Rattle.est_micro.proofs.ResumedNodes.{loop_resumed, local_resumed, begun_chosen, resumed_chosen, resumed_one}
use Rattle.est_micro.proofs.ResumedNodes.{resumed_two, resumed_next, resumed_local, resumed_told}
use Rattle.est_micro.proofs.sweep_resume.+sweep_resumed.Goals as goal

pub sweep_part-returns-then-is_on-clause-swept : goal.sweep_part-returns-then-is_on-clause-swept
sweep_part-returns-then-is_on-clause-swept g t c =
    resumed_chosen c.args.at.now c.args.p.now c.args.pauses.now c.args.is_on c.args.gate c.args.run c.args.env.now _ _ _
    c.if-is_on.true
    c.sweep_resumed.ensures.swept

pub sweep_part-returns-else-is_on-clause-swept : goal.sweep_part-returns-else-is_on-clause-swept
sweep_part-returns-else-is_on-clause-swept g t c =
    begun_chosen c.args.at.now.number c.args.at.now.direction c.args.at.now.main c.args.at.now.cell
    c.args.at.now.traps c.args.p.now
    c.args.pauses.now
    c.args.is_on c.args.gate
    c.args.run
    c.args.env.now _ _ _ c.requires.main c.if-is_on.false c.sweep_begun.ensures.swept

pub resume_present-returns-clause-swept : goal.resume_present-returns-clause-swept
resume_present-returns-clause-swept g t c = λ q a b asks.
    present_resumed c.args.at.now q a c.args.p.now b c.args.q.now c.args.pauses.now c.args.run c.args.asked _ _ _ _ _
    c.args.env.now
    _ _ _ _ _ _ _ _ _ asks c.is_live-is_on.ensures c.tell_cell-go.ensures.learns c.tell_cell-go.ensures.known
    c.and.ensures
    c.opposite.ensures c.and-2.ensures c.sweep_part-first.ensures.swept c.sweep_part-second.ensures.swept
    c.either-own.ensures
    c.finish_statement.ensures.finished

pub resume_seq-returns-clause-swept : goal.resume_seq-returns-clause-swept
resume_seq-returns-clause-swept g t c = λ a b.
    seq_resumed c.args.at.now a c.args.p.now b c.args.q.now c.args.pauses.now c.args.run _ _ _ c.args.env.now
    _ _ _ _ _ _ _ _ _ _ c.is_live-is_on.ensures c.tell_cell-go.ensures.learns c.tell_cell-go.ensures.known
    c.ends-later.ensures c.with_emitted-inside.ensures
    c.sweep_part-first.ensures.swept c.sweep_part-second.ensures.swept c.followed-own.ensures
    c.finish_statement.ensures.finished

pub resume_par-returns-clause-swept : goal.resume_par-returns-clause-swept
resume_par-returns-clause-swept g t c = λ a b.
    par_resumed c.args.at.now a c.args.p.now b c.args.q.now c.args.pauses.now c.args.run _ _ _ c.args.env.now
    _ _ _ _ _ _ _ _ _ _ _ _ c.requires.direction c.is_live-first_on.ensures c.second_lives-second_on.ensures
    c.tell_cell-go.ensures.learns
    c.tell_cell-go.ensures.known c.sweep_part-first.ensures.swept c.with_emitted-inside.ensures
    c.sweep_part-second.ensures.swept
    c.judge_side-left.ensures
    c.judge_side-right.ensures
    c.beside-own.ensures c.finish_statement.ensures.finished

pub resume_par_back-returns-clause-swept : goal.resume_par_back-returns-clause-swept
resume_par_back-returns-clause-swept g t c = λ a b.
    par_resumed_back c.args.at.now a c.args.p.now b c.args.q.now c.args.pauses.now c.args.run _ _ _ _ c.args.env.now
    _ _ _ _ _ _ _ _ _ _ _ _ c.requires.direction c.is_live-first_on.ensures c.second_lives-second_on.ensures
    c.tell_cell-go.ensures.learns
    c.tell_cell-go.ensures.known (rw c.requires.main at c.past.ensures) c.sweep_part-second.ensures.swept
    c.with_emitted-inside.ensures
    c.sweep_part-first.ensures.swept
    c.judge_side-left.ensures
    c.judge_side-right.ensures
    c.beside-own.ensures c.finish_statement.ensures.finished

pub resume_suspend-returns-clause-swept : goal.resume_suspend-returns-clause-swept
resume_suspend-returns-clause-swept g t c = λ q a asks.
    suspend_resumed c.args.at.now q a c.args.p.now c.args.pauses.now c.args.run c.args.asked _ _ _ c.args.env.now
    _ _ _ _ _ _ _ _ asks c.tell_cell.ensures.learns c.opposite.ensures c.and.ensures c.and-2.ensures
    c.sweep_resumed-body.ensures.swept
    c.leaf-held.ensures c.with_codes-own.ensures c.finish_statement.ensures.finished

pub resume_loop-returns-clause-swept : goal.resume_loop-returns-clause-swept
resume_loop-returns-clause-swept g t c = λ a.
    loop_resumed c.args.at.now a c.args.p.now c.args.pauses.now c.args.run _ c.args.env.now _ _ _ _ _ _ _ _ _ _
    c.tell_cell.ensures.learns c.ends-later.ensures c.sweep_resumed-first.ensures.swept c.with_emitted-inside.ensures
    c.sweep_begun-again.ensures.swept
    c.followed-own.ensures
    c.finish_statement.ensures.finished

pub resume_trap-returns-clause-swept : goal.resume_trap-returns-clause-swept
resume_trap-returns-clause-swept g t c = λ a.
    trap_resumed c.args.at.now a c.args.p.now c.args.pauses.now c.args.run c.args.env.now _ _ _ _ _ _ _
    c.tell_cell.ensures.learns c.sweep_resumed-body.ensures.swept c.out_of_trap-own.ensures
    c.finish_statement.ensures.finished

pub resume_local-returns-clause-swept : goal.resume_local-returns-clause-swept
resume_local-returns-clause-swept g t c = λ a.
    local_resumed c.args.at.now c.args.s a c.args.p.now c.args.pauses.now c.args.run _ c.args.env.now _ _ _ _ _ _ _ _ _
    c.tell_cell.ensures.learns
    (c.set_local-inside.ensures ∙ ap (λ (v : Status). with_local (env_of c.args.env.now) c.args.s.index v)
    c.status.ensures)
    c.sweep_resumed-body.ensures.swept c.status_of.ensures c.tell_cell-2.ensures.learns c.hiding-own.ensures
    c.finish_statement.ensures.finished

pub resume_suspend-finish_statement-requires-clause-within : goal.resume_suspend-finish_statement-requires-clause-within
resume_suspend-finish_statement-requires-clause-within g t c =
    resumed_one _ _ c.args.net.now.cells.items _ _ _ _ _ _ _ _ c.requires.within c.tell_cell.ensures.learns.size
    c.sweep_resumed-body.ensures.swept

pub resume_trap-finish_statement-requires-clause-within : goal.resume_trap-finish_statement-requires-clause-within
resume_trap-finish_statement-requires-clause-within g t c =
    resumed_one _ _ c.args.net.now.cells.items _ _ _ _ _ _ _ _ c.requires.within c.tell_cell.ensures.learns.size
    c.sweep_resumed-body.ensures.swept

pub resume_loop-finish_statement-requires-clause-within : goal.resume_loop-finish_statement-requires-clause-within
resume_loop-finish_statement-requires-clause-within g t c =
    resumed_two _ _ _ c.args.net.now.cells.items _ _ _ _ _ _ _ _ _ _ _ _ _ _ c.requires.within
    c.tell_cell.ensures.learns.size
    c.sweep_resumed-first.ensures.swept c.sweep_begun-again.ensures.swept

pub resume_loop-sweep_begun-again-requires-clause-within : goal.resume_loop-sweep_begun-again-requires-clause-within
resume_loop-sweep_begun-again-requires-clause-within g t c =
    resumed_next c.args.net.now.cells.items _ _ _ _ _ _ _ _ _ c.sweep_resumed-first.ensures.swept c.requires.within
    c.tell_cell.ensures.learns.size

pub resume_local-tell_cell-requires-2-clause-within : goal.resume_local-tell_cell-requires-2-clause-within
resume_local-tell_cell-requires-2-clause-within g t c =
    resumed_local (c.args.at.now.cell + c.args.at.now.traps) _ c.args.net.now.cells.items _ _ _ _ _ _ _ _
    c.requires.within
    c.tell_cell.ensures.learns.size c.sweep_resumed-body.ensures.swept

pub resume_local-finish_statement-requires-clause-within : goal.resume_local-finish_statement-requires-clause-within
resume_local-finish_statement-requires-clause-within g t c =
    resumed_told (c.args.at.now.cell + c.args.at.now.traps) _ c.args.net.now.cells.items _ _ _ _ _ _ _ _ _
    c.requires.within
    c.tell_cell.ensures.learns.size c.sweep_resumed-body.ensures.swept c.tell_cell-2.ensures.learns.size

pub sweep_resumed-returns-then-is_decided-clause-swept : goal.sweep_resumed-returns-then-is_decided-clause-swept
sweep_resumed-returns-then-is_decided-clause-swept g t c =
    read_resumed c.args.s.now c.args.at.now c.args.pauses.now c.args.run c.args.env.now _ _ c.requires.main
    c.read.ensures

pub resume_present-sweep_part-first-requires : goal.resume_present-sweep_part-first-requires
resume_present-sweep_part-first-requires g t c κs bound = (
  search (rules, the_lemmas),
  (
    bound,
    (
      c.requires.main,
      (
        λ e. sym c.is_live-is_on.ensures ∙ e,
        (
          c.requires.fits.0,
          (
            still _ _ _ _ _ c.tell_cell-go.ensures.kept c.requires.first_extents,
            (
              within_first _ _ _ c.args.net.now.cells.items _ c.requires.within c.tell_cell-go.ensures.learns.size,
              (
                fresh_told _ c.args.at.now.cell _ _ _ _ _ _ _ c.tell_cell-go.ensures.learns (omega arith) (omega arith)
                    (omega arith) c.requires.fresh,
                c.requires.first_traps,
              ),
            ),
          ),
        ),
      ),
    ),
  ),
)

pub resume_present-sweep_part-second-requires : goal.resume_present-sweep_part-second-requires
resume_present-sweep_part-second-requires g t c κs bound = (
  search (rules, the_lemmas),
  (
    bound,
    (
      c.requires.main,
      (
        search rules,
        (
          c.requires.fits.1,
          (
            still_at _ _ _ _ _ _ c.number_after.ensures (c.sweep_part-first.ensures.kept ∙ c.tell_cell-go.ensures.kept)
                c.requires.second_extents,
            (
              within_after _ _ _ _ c.args.net.now.cells.items _ _ c.sweep_part-first.ensures.swept.past
                  c.requires.within c.tell_cell-go.ensures.learns.size c.sweep_part-first.ensures.swept.changes.size,
              (
                fresh_next _ c.args.at.now.cell _ _ _ _ _ _ _ _ c.tell_cell-go.ensures.learns
                    c.sweep_part-first.ensures.swept.changes c.sweep_part-first.ensures.swept.past
                    (omega arith) c.requires.fresh,
                c.requires.second_traps,
              ),
            ),
          ),
        ),
      ),
    ),
  ),
)

pub resume_present-finish_statement-requires-clause-fresh : goal.resume_present-finish_statement-requires-clause-fresh
resume_present-finish_statement-requires-clause-fresh g t c =
    let e = c.sweep_part-first.ensures.swept.past in
    fresh_codes_two _ c.args.at.now.cell _ _ _ _ _ _ _ _ _ _ _ c.tell_cell-go.ensures.learns
    c.sweep_part-first.ensures.swept.changes
    c.sweep_part-second.ensures.swept.changes (omega arith) (omega (arith, e)) (omega arith) c.requires.fresh

pub resume_seq-sweep_part-first-requires : goal.resume_seq-sweep_part-first-requires
resume_seq-sweep_part-first-requires g t c κs bound = (
  search (rules, the_lemmas),
  (
    bound,
    (
      c.requires.main,
      (
        λ e. sym c.is_live-is_on.ensures ∙ e,
        (
          c.requires.fits.0,
          (
            still _ _ _ _ _ c.tell_cell-go.ensures.kept c.requires.first_extents,
            (
              within_first _ _ _ c.args.net.now.cells.items _ c.requires.within c.tell_cell-go.ensures.learns.size,
              (
                fresh_told _ c.args.at.now.cell _ _ _ _ _ _ _ c.tell_cell-go.ensures.learns (omega arith) (omega arith)
                    (omega arith) c.requires.fresh,
                c.requires.first_traps,
              ),
            ),
          ),
        ),
      ),
    ),
  ),
)

pub resume_seq-sweep_part-second-requires : goal.resume_seq-sweep_part-second-requires
resume_seq-sweep_part-second-requires g t c κs bound = (
  search (rules, the_lemmas),
  (
    bound,
    (
      c.requires.main,
      (
        search rules,
        (
          c.requires.fits.1,
          (
            still_at _ _ _ _ _ _ c.number_after.ensures (c.sweep_part-first.ensures.kept ∙ c.tell_cell-go.ensures.kept)
                c.requires.second_extents,
            (
              within_after _ _ _ _ c.args.net.now.cells.items _ _ c.sweep_part-first.ensures.swept.past
                  c.requires.within c.tell_cell-go.ensures.learns.size c.sweep_part-first.ensures.swept.changes.size,
              (
                fresh_next _ c.args.at.now.cell _ _ _ _ _ _ _ _ c.tell_cell-go.ensures.learns
                    c.sweep_part-first.ensures.swept.changes c.sweep_part-first.ensures.swept.past
                    (omega arith) c.requires.fresh,
                c.requires.second_traps,
              ),
            ),
          ),
        ),
      ),
    ),
  ),
)

pub resume_seq-finish_statement-requires-clause-fresh : goal.resume_seq-finish_statement-requires-clause-fresh
resume_seq-finish_statement-requires-clause-fresh g t c =
    let e = c.sweep_part-first.ensures.swept.past in
    fresh_codes_two _ c.args.at.now.cell _ _ _ _ _ _ _ _ _ _ _ c.tell_cell-go.ensures.learns
    c.sweep_part-first.ensures.swept.changes
    c.sweep_part-second.ensures.swept.changes (omega arith) (omega (arith, e)) (omega arith) c.requires.fresh

pub resume_par-sweep_part-first-requires : goal.resume_par-sweep_part-first-requires
resume_par-sweep_part-first-requires g t c κs bound = (
  search (rules, the_lemmas),
  (
    bound,
    (
      c.requires.main,
      (
        λ e. sym c.is_live-first_on.ensures ∙ e,
        (
          c.requires.fits.0,
          (
            still _ _ _ _ _ c.tell_cell-go.ensures.kept c.requires.first_extents,
            (
              within_first _ _ _ c.args.net.now.cells.items _ c.requires.within c.tell_cell-go.ensures.learns.size,
              (
                fresh_told _ c.args.at.now.cell _ _ _ _ _ _ _ c.tell_cell-go.ensures.learns (omega arith) (omega arith)
                    (omega arith) c.requires.fresh,
                c.requires.first_traps,
              ),
            ),
          ),
        ),
      ),
    ),
  ),
)

pub resume_par-sweep_part-second-requires : goal.resume_par-sweep_part-second-requires
resume_par-sweep_part-second-requires g t c κs bound = (
  search (rules, the_lemmas),
  (
    bound,
    (
      c.requires.main,
      (
        λ e. sym c.second_lives-second_on.ensures ∙ e,
        (
          c.requires.fits.1,
          (
            still_at _ _ _ _ _ _ c.number_after-number.ensures
                (c.sweep_part-first.ensures.kept ∙ c.tell_cell-go.ensures.kept)
                c.requires.second_extents,
            (
              within_after _ _ _ _ c.args.net.now.cells.items _ _ c.sweep_part-first.ensures.swept.past
                  c.requires.within c.tell_cell-go.ensures.learns.size c.sweep_part-first.ensures.swept.changes.size,
              (
                fresh_next _ c.args.at.now.cell _ _ _ _ _ _ _ _ c.tell_cell-go.ensures.learns
                    c.sweep_part-first.ensures.swept.changes c.sweep_part-first.ensures.swept.past
                    (omega arith) c.requires.fresh,
                c.requires.second_traps,
              ),
            ),
          ),
        ),
      ),
    ),
  ),
)

pub resume_par-finish_statement-requires-clause-fresh : goal.resume_par-finish_statement-requires-clause-fresh
resume_par-finish_statement-requires-clause-fresh g t c =
    let e = c.sweep_part-first.ensures.swept.past in
    fresh_codes_two _ c.args.at.now.cell _ _ _ _ _ _ _ _ _ _ _ c.tell_cell-go.ensures.learns
    c.sweep_part-first.ensures.swept.changes
    c.sweep_part-second.ensures.swept.changes (omega arith) (omega (arith, e)) (omega arith) c.requires.fresh

pub resume_par_back-sweep_part-second-requires : goal.resume_par_back-sweep_part-second-requires
resume_par_back-sweep_part-second-requires g t c κs bound = (
  search (rules, the_lemmas),
  (
    bound,
    (
      c.requires.main,
      (
        λ e. sym c.second_lives-second_on.ensures ∙ e,
        (
          c.requires.fits.1,
          (
            still_at _ _ _ _ _ _ c.number_after-number.ensures c.tell_cell-go.ensures.kept c.requires.second_extents,
            (
              within_back _ _ _ _ c.args.net.now.cells.items _ (rw c.requires.main at c.past.ensures) c.requires.within
                  c.tell_cell-go.ensures.learns.size,
              (
                fresh_back _ c.args.at.now.cell _ _ _ _ _ _ _ c.tell_cell-go.ensures.learns
                    (rw c.requires.main at c.past.ensures) (omega arith) c.requires.fresh,
                c.requires.second_traps,
              ),
            ),
          ),
        ),
      ),
    ),
  ),
)

pub resume_par_back-sweep_part-first-requires : goal.resume_par_back-sweep_part-first-requires
resume_par_back-sweep_part-first-requires g t c κs bound = (
  search (rules, the_lemmas),
  (
    bound,
    (
      c.requires.main,
      (
        λ e. sym c.is_live-first_on.ensures ∙ e,
        (
          c.requires.fits.0,
          (
            still _ _ _ _ _ (c.sweep_part-second.ensures.kept ∙ c.tell_cell-go.ensures.kept) c.requires.first_extents,
            (
              within_two_same _ _ c.args.net.now.cells.items _ _ c.requires.within c.tell_cell-go.ensures.learns.size
                  c.sweep_part-second.ensures.swept.changes.size,
              (
                fresh_kept _ c.args.at.now.cell _ _ _ _ _ _ _ _ _ c.tell_cell-go.ensures.learns
                    c.sweep_part-second.ensures.swept.changes (omega arith)
                    (let e = rw c.requires.main at c.past.ensures in omega (arith, e)) (omega arith) c.requires.fresh,
                c.requires.first_traps,
              ),
            ),
          ),
        ),
      ),
    ),
  ),
)

pub resume_par_back-finish_statement-requires-clause-fresh : goal.resume_par_back-finish_statement-requires-clause-fresh
resume_par_back-finish_statement-requires-clause-fresh g t c =
    let e = rw c.requires.main at c.past.ensures in
    fresh_codes_two _ c.args.at.now.cell _ _ _ _ _ _ _ _ _ _ _ c.tell_cell-go.ensures.learns
    c.sweep_part-second.ensures.swept.changes
    c.sweep_part-first.ensures.swept.changes (omega (arith, e)) (omega arith) (omega arith) c.requires.fresh

pub resume_suspend-sweep_resumed-body-requires : goal.resume_suspend-sweep_resumed-body-requires
resume_suspend-sweep_resumed-body-requires g t c κs bound = (
  search (rules, the_lemmas),
  (
    bound,
    (
      c.requires.main,
      (
        c.requires.live,
        (
          c.requires.fits,
          (
            still _ _ _ _ _ c.tell_cell.ensures.kept c.requires.extents,
            (
              within_same _ c.args.net.now.cells.items _ c.requires.within c.tell_cell.ensures.learns.size,
              (
                fresh_told _ c.args.at.now.cell _ _ _ _ _ _ _ c.tell_cell.ensures.learns (omega arith) (omega arith)
                    (omega arith) c.requires.fresh,
                c.requires.traps,
              ),
            ),
          ),
        ),
      ),
    ),
  ),
)

pub resume_trap-sweep_resumed-body-requires : goal.resume_trap-sweep_resumed-body-requires
resume_trap-sweep_resumed-body-requires g t c κs bound = (
  search (rules, the_lemmas),
  (
    bound,
    (
      c.requires.main,
      (
        c.requires.live,
        (
          c.requires.fits,
          (
            still _ _ _ _ _ c.tell_cell.ensures.kept c.requires.extents,
            (
              within_same _ c.args.net.now.cells.items _ c.requires.within c.tell_cell.ensures.learns.size,
              (
                fresh_told _ c.args.at.now.cell _ _ _ _ _ _ _ c.tell_cell.ensures.learns (omega arith) (omega arith)
                    (omega arith) c.requires.fresh,
                c.requires.traps,
              ),
            ),
          ),
        ),
      ),
    ),
  ),
)

pub resume_local-sweep_resumed-body-requires : goal.resume_local-sweep_resumed-body-requires
resume_local-sweep_resumed-body-requires g t c κs bound = (
  search (rules, the_lemmas),
  (
    bound,
    (
      c.requires.main,
      (
        c.requires.live,
        (
          c.requires.fits.1,
          (
            still _ _ _ _ _ c.tell_cell.ensures.kept c.requires.extents,
            (
              within_first_local (c.args.at.now.cell + c.args.at.now.traps) _ c.args.net.now.cells.items _
                  c.requires.within c.tell_cell.ensures.learns.size,
              (
                fresh_told _ c.args.at.now.cell _ _ _ _ _ _ _ c.tell_cell.ensures.learns (omega arith) (omega arith)
                    (omega arith) c.requires.fresh,
                c.requires.traps,
              ),
            ),
          ),
        ),
      ),
    ),
  ),
)

pub resume_loop-sweep_resumed-first-requires : goal.resume_loop-sweep_resumed-first-requires
resume_loop-sweep_resumed-first-requires g t c κs bound = (
  search (rules, the_lemmas),
  (
    bound,
    (
      c.requires.main,
      (
        c.requires.live,
        (
          c.requires.fits,
          (
            still _ _ _ _ _ c.tell_cell.ensures.kept c.requires.extents,
            (
              within_first _ _ _ c.args.net.now.cells.items _ c.requires.within c.tell_cell.ensures.learns.size,
              (
                fresh_told _ c.args.at.now.cell _ _ _ _ _ _ _ c.tell_cell.ensures.learns (omega arith) (omega arith)
                    (omega arith) c.requires.fresh,
                c.requires.traps,
              ),
            ),
          ),
        ),
      ),
    ),
  ),
)

pub resume_suspend-finish_statement-requires-clause-fresh : goal.resume_suspend-finish_statement-requires-clause-fresh
resume_suspend-finish_statement-requires-clause-fresh g t c =
    fresh_codes _ c.args.at.now.cell _ _ _ _ _ _ _ _ c.tell_cell.ensures.learns
    (changes_resumed _ _ _ _ _ _ _ _ c.sweep_resumed-body.ensures.swept)
    (omega arith) (omega arith) c.requires.fresh

pub resume_trap-finish_statement-requires-clause-fresh : goal.resume_trap-finish_statement-requires-clause-fresh
resume_trap-finish_statement-requires-clause-fresh g t c =
    fresh_codes _ c.args.at.now.cell _ _ _ _ _ _ _ _ c.tell_cell.ensures.learns
    (changes_resumed _ _ _ _ _ _ _ _ c.sweep_resumed-body.ensures.swept)
    (omega arith) (omega arith) c.requires.fresh

pub resume_loop-sweep_begun-again-requires-clause-fresh : goal.resume_loop-sweep_begun-again-requires-clause-fresh
resume_loop-sweep_begun-again-requires-clause-fresh g t c =
    fresh_next _ c.args.at.now.cell _ _ _ _ _ _ _ _ c.tell_cell.ensures.learns
    (changes_resumed _ _ _ _ _ _ _ _ c.sweep_resumed-first.ensures.swept)
    (past_resumed _ _ _ _ _ _ _ _ c.sweep_resumed-first.ensures.swept) (omega arith) c.requires.fresh

pub resume_loop-finish_statement-requires-clause-fresh : goal.resume_loop-finish_statement-requires-clause-fresh
resume_loop-finish_statement-requires-clause-fresh g t c =
    let e = past_resumed _ _ _ _ _ _ _ _ c.sweep_resumed-first.ensures.swept in
    fresh_codes_two _ c.args.at.now.cell _ _ _ _ _ _ _ _ _ _ _ c.tell_cell.ensures.learns
    (changes_resumed _ _ _ _ _ _ _ _ c.sweep_resumed-first.ensures.swept)
    (changes_begun _ _ _ _ _ _ _ c.sweep_begun-again.ensures.swept) (omega arith) (omega (arith, e))
    (omega arith) c.requires.fresh

pub resume_local-tell_cell-requires-2-clause-fresh : goal.resume_local-tell_cell-requires-2-clause-fresh
resume_local-tell_cell-requires-2-clause-fresh g t c =
    fresh_kept _ c.args.at.now.cell _ _ _ _ _ _ _ _ _ c.tell_cell.ensures.learns
    (changes_resumed _ _ _ _ _ _ _ _ c.sweep_resumed-body.ensures.swept) (omega arith) (omega arith) (omega arith)
    c.requires.fresh

pub resume_local-finish_statement-requires-clause-fresh : goal.resume_local-finish_statement-requires-clause-fresh
resume_local-finish_statement-requires-clause-fresh g t c =
    fresh_untold _ _ _ _ _ _ _ c.tell_cell-2.ensures.learns (omega arith)
    (fresh_codes _ c.args.at.now.cell _ _ _ _ _ _ _ _ c.tell_cell.ensures.learns
    (changes_resumed _ _ _ _ _ _ _ _ c.sweep_resumed-body.ensures.swept) (omega arith)
    (omega arith) c.requires.fresh)

pub sweep_part-sweep_begun-requires-clause-fresh : goal.sweep_part-sweep_begun-requires-clause-fresh
sweep_part-sweep_begun-requires-clause-fresh g t c =
    rw c.requires.main c.requires.fresh

pub resume_present-tell_cell-go-requires-clause-fresh : goal.resume_present-tell_cell-go-requires-clause-fresh
resume_present-tell_cell-go-requires-clause-fresh g t c =
    fresh_part _ _ _ _ _ _ (omega arith) (omega arith) c.requires.fresh

pub resume_seq-tell_cell-go-requires-clause-fresh : goal.resume_seq-tell_cell-go-requires-clause-fresh
resume_seq-tell_cell-go-requires-clause-fresh g t c =
    fresh_part _ _ _ _ _ _ (omega arith) (omega arith) c.requires.fresh

pub resume_par-tell_cell-go-requires-clause-fresh : goal.resume_par-tell_cell-go-requires-clause-fresh
resume_par-tell_cell-go-requires-clause-fresh g t c =
    fresh_part _ _ _ _ _ _ (omega arith) (omega arith) c.requires.fresh

pub resume_par_back-tell_cell-go-requires-clause-fresh : goal.resume_par_back-tell_cell-go-requires-clause-fresh
resume_par_back-tell_cell-go-requires-clause-fresh g t c =
    fresh_part _ _ _ _ _ _ (omega arith) (omega arith) c.requires.fresh

pub resume_suspend-tell_cell-requires-clause-fresh : goal.resume_suspend-tell_cell-requires-clause-fresh
resume_suspend-tell_cell-requires-clause-fresh g t c =
    fresh_part _ _ _ _ _ _ (omega arith) (omega arith) c.requires.fresh

pub resume_trap-tell_cell-requires-clause-fresh : goal.resume_trap-tell_cell-requires-clause-fresh
resume_trap-tell_cell-requires-clause-fresh g t c =
    fresh_part _ _ _ _ _ _ (omega arith) (omega arith) c.requires.fresh

pub resume_local-tell_cell-requires-clause-fresh : goal.resume_local-tell_cell-requires-clause-fresh
resume_local-tell_cell-requires-clause-fresh g t c =
    fresh_part _ _ _ _ _ _ (omega arith) (omega arith) c.requires.fresh

pub resume_loop-tell_cell-requires-clause-fresh : goal.resume_loop-tell_cell-requires-clause-fresh
resume_loop-tell_cell-requires-clause-fresh g t c =
    fresh_part _ _ _ _ _ _ (omega arith) (omega arith) c.requires.fresh

pub resume_second-tell_cell-requires-clause-fresh : goal.resume_second-tell_cell-requires-clause-fresh
resume_second-tell_cell-requires-clause-fresh g t c =
    fresh_part _ _ _ _ _ _ (omega arith) (omega arith) c.requires.fresh

pub resume_second-fill-requires-clause-open : goal.resume_second-fill-requires-clause-open
resume_second-fill-requires-clause-open g t c =
    let e = rw c.requires.main at c.past-later.ensures in
    open_of_fresh _ _ _ _ c.requires.first
    (fresh_told _ c.args.at.now.cell _ _ _ _ _ _ _ c.tell_cell.ensures.learns (omega arith) (omega arith)
    (omega (arith, e)) c.requires.fresh)

pub resume_second-sweep_resumed-second-requires : goal.resume_second-sweep_resumed-second-requires
resume_second-sweep_resumed-second-requires g t c κs bound =
    let b = over_begun _ c.args.p.now
    (part_at c.args.at.now (c.args.at.now.number + 1) (c.args.at.now.cell + c.args.at.now.traps + 3)) c.args.env.now
    _ _ _ _ c.requires.first
    (fresh_told _ c.args.at.now.cell c.args.at.now.cell
    (c.args.at.now.cell + c.args.at.now.traps + 3
    + sheet_size c.args.at.now.main c.args.p.now c.args.at.now.traps
    + sheet_size true c.args.q.now c.args.at.now.traps) _ _ _ _ _ c.tell_cell.ensures.learns (omega arith)
    (omega arith) (omega arith) (rw c.requires.main c.requires.fresh))
    c.past-later.ensures c.fill.ensures.cells c.nothing-first.ensures.judged c.nothing-first.ensures.past in
    let p = (past_begun _ _ _ _ _ _ _ b) in (
      search (rules, the_lemmas),
      (
        bound,
        (
          c.requires.main,
          (
            c.requires.live,
            (
              c.requires.fits.1,
              (
                still_at _ _ _ _ _ _ c.number_after.ensures (c.fill.ensures.kept ∙ c.tell_cell.ensures.kept)
                    c.requires.second_extents,
                (
                  within_after _ _ _ _ c.args.net.now.cells.items _ _ p (rw c.requires.main c.requires.within)
                      c.tell_cell.ensures.learns.size c.fill.ensures.cells.size,
                  (
                    fresh_next _ c.args.at.now.cell (c.args.at.now.cell + c.args.at.now.traps + 3)
                        (sheet_size c.args.at.now.main c.args.p.now c.args.at.now.traps)
                        (sheet_size true c.args.q.now c.args.at.now.traps) _ _ _ _ _
                        c.tell_cell.ensures.learns (changes_begun _ _ _ _ _ _ _ b) p (omega arith)
                        (rw c.requires.main c.requires.fresh),
                    c.requires.second_traps,
                  ),
                ),
              ),
            ),
          ),
        ),
      ),
    )

pub resume_second-finish_statement-requires-clause-within : goal.resume_second-finish_statement-requires-clause-within
resume_second-finish_statement-requires-clause-within g t c =
    let a = c.tell_cell.ensures.learns.size in
    let b = c.fill.ensures.cells.size in
    let d = (changes_resumed _ _ _ _ _ _ _ _ c.sweep_resumed-second.ensures.swept).size in
    let w = c.requires.within in
    omega (arith, a, b, d, w)

pub resume_second-finish_statement-requires-clause-fresh : goal.resume_second-finish_statement-requires-clause-fresh
resume_second-finish_statement-requires-clause-fresh g t c =
    let b = over_begun _ c.args.p.now
    (part_at c.args.at.now (c.args.at.now.number + 1) (c.args.at.now.cell + c.args.at.now.traps + 3)) c.args.env.now
    _ _ _ _ c.requires.first
    (fresh_told _ c.args.at.now.cell c.args.at.now.cell
    (c.args.at.now.cell + c.args.at.now.traps + 3
    + sheet_size c.args.at.now.main c.args.p.now c.args.at.now.traps
    + sheet_size true c.args.q.now c.args.at.now.traps) _ _ _ _ _ c.tell_cell.ensures.learns (omega arith)
    (omega arith) (omega arith) (rw c.requires.main c.requires.fresh))
    c.past-later.ensures c.fill.ensures.cells c.nothing-first.ensures.judged c.nothing-first.ensures.past in
    let e = (past_begun _ _ _ _ _ _ _ b) in
    fresh_codes_two _ c.args.at.now.cell _ _ _ _ _ _ _ _ _ _ _ c.tell_cell.ensures.learns
    (changes_begun _ _ _ _ _ _ _ b) (changes_resumed _ _ _ _ _ _ _ _ c.sweep_resumed-second.ensures.swept)
    (omega arith) (omega (arith, e)) (omega arith) c.requires.fresh

pub resume_second-returns-clause-swept : goal.resume_second-returns-clause-swept
resume_second-returns-clause-swept g t c = λ a b.
    let first =
    over_begun _ c.args.p.now
    (part_at c.args.at.now (c.args.at.now.number + 1) (c.args.at.now.cell + c.args.at.now.traps + 3)) c.args.env.now
    _ _ _ _ c.requires.first
    (fresh_told _ c.args.at.now.cell c.args.at.now.cell
    (c.args.at.now.cell + c.args.at.now.traps + 3
    + sheet_size c.args.at.now.main c.args.p.now c.args.at.now.traps
    + sheet_size true c.args.q.now c.args.at.now.traps) _ _ _ _ _ c.tell_cell.ensures.learns (omega arith)
    (omega arith) (omega arith) (rw c.requires.main c.requires.fresh))
    c.past-later.ensures c.fill.ensures.cells c.nothing-first.ensures.judged c.nothing-first.ensures.past in
    seq_resumed c.args.at.now a c.args.p.now b c.args.q.now c.args.pauses.now c.args.run _ Absent false c.args.env.now
    _ _ _ _ _ _ _ _ _ _ (sym c.requires.over) c.tell_cell.ensures.learns
    (absent_told _ _ _ _ _ c.requires.first c.requires.fresh (omega arith) c.tell_cell.ensures.learns) refl
    c.with_emitted-inside.ensures
    (begun_chosen (c.args.at.now.number + 1) c.args.at.now.direction c.args.at.now.main
    (c.args.at.now.cell + c.args.at.now.traps + 3) c.args.at.now.traps c.args.p.now c.args.pauses.now false Absent
    c.args.run c.args.env.now _ _ _ c.requires.main refl first)
    (resumed_chosen (part_at c.args.at.now c.number_after.result c.nothing-first.result.past) c.args.q.now
    c.args.pauses.now true
    (verdict (codes_of c.nothing-first.result.judged.must.codes 0)
    (codes_of c.nothing-first.result.judged.can.codes 0)) c.args.run _ _ _ _ refl
    c.sweep_resumed-second.ensures.swept) c.followed-own.ensures c.finish_statement.ensures.finished
