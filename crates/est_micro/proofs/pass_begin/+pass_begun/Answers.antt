use Rattle.std.proofs.Common.{rules, arith, refl, sym}
use Rattle.est_kernel.specs.declared.statement.Statement.TheFolds.{the_lemmas}
use Rattle.est_meaning.specs.Views.{env_of}
use Rattle.est_micro.proofs.BegunNodes.{within_back}
use Rattle.est_micro.proofs.Frames.{size_least}
use Rattle.est_micro.proofs.KeptExtents.{still_at}
use Rattle.est_micro.proofs.PassedNodes.{loop_passed, nothing_passed, par_passed, seq_passed, suspend_passed}
use Rattle.est_micro.proofs.PassedNodes.{trap_passed}
use Rattle.est_micro.proofs.Passing.{by_go}
use Rattle.est_micro.proofs.pass_begin.+pass_begun.Goals as goal

pub pass_par-pass_begun-requires-2 : goal.pass_par-pass_begun-requires-2
pass_par-pass_begun-requires-2 t c = (
  search (rules, the_lemmas),
  (
    c.requires.fits.1,
    (
      still_at _ _ _ _ _ _ c.number_after.ensures c.pass_begun.ensures.kept c.requires.second_extents,
      (
        within_back _ _ _ _ c.args.net.now.cells.items _ c.past.ensures c.requires.within
            c.pass_begun.ensures.passes.changes.size,
        c.requires.second_traps,
      ),
    ),
  ),
)

pub pass_par-returns-clause-passes : goal.pass_par-returns-clause-passes
pass_par-returns-clause-passes t c = λ g a b.
    par_passed c.args.at.now.main a c.args.p.now b c.args.q.now c.args.at.now.cell c.args.at.now.traps g _
    (env_of c.args.env.now) _ _ _ _ c.status-go.ensures c.past.ensures c.pass_begun.ensures.passes
    c.pass_begun-2.ensures.passes

pub pass_seq-pass_begun-requires-2 : goal.pass_seq-pass_begun-requires-2
pass_seq-pass_begun-requires-2 t c = (
  search (rules, the_lemmas),
  (
    c.requires.fits.1,
    (
      still_at _ _ _ _ _ _ c.number_after.ensures c.pass_begun.ensures.kept c.requires.second_extents,
      (
        within_back _ _ _ _ c.args.net.now.cells.items _ c.past.ensures c.requires.within
            c.pass_begun.ensures.passes.changes.size,
        c.requires.second_traps,
      ),
    ),
  ),
)

pub pass_seq-status-ends-requires : goal.pass_seq-status-ends-requires
pass_seq-status-ends-requires t c =
    let least = size_least c.args.at.now.main c.args.p.now c.args.at.now.traps in
    let size = c.pass_begun.ensures.passes.changes.size in
    omega (arith, c.requires.within)

pub pass_seq-returns-clause-passes : goal.pass_seq-returns-clause-passes
pass_seq-returns-clause-passes t c = λ g a b.
    seq_passed c.args.at.now.main a c.args.p.now b c.args.q.now c.args.at.now.cell c.args.at.now.traps g _ _
    (env_of c.args.env.now) _ _ _ _ (by_go _ _ _ c.status-go.ensures) c.past.ensures c.pass_begun.ensures.passes
    c.status-ends.ensures c.pass_begun-2.ensures.passes

pub pass_body-returns-clause-suspend : goal.pass_body-returns-clause-suspend
pass_body-returns-clause-suspend t c = λ g y a w.
    suspend_passed c.args.at.now.main y a c.args.p.now c.args.at.now.cell c.args.at.now.traps c.args.traps g _
    (env_of c.args.env.now) _ _ w (by_go _ _ _ c.status-go.ensures) c.pass_begun.ensures.passes

pub pass_body-returns-clause-loops : goal.pass_body-returns-clause-loops
pass_body-returns-clause-loops t c = λ g a w.
    loop_passed c.args.at.now.main a c.args.p.now c.args.at.now.cell c.args.at.now.traps c.args.traps g _
    (env_of c.args.env.now) _ _ w (by_go _ _ _ c.status-go.ensures) c.pass_begun.ensures.passes

pub pass_body-returns-clause-trap : goal.pass_body-returns-clause-trap
pass_body-returns-clause-trap t c = λ g a w.
    trap_passed c.args.at.now.main a c.args.p.now c.args.at.now.cell c.args.at.now.traps c.args.traps g _
    (env_of c.args.env.now) _ _ w (by_go _ _ _ c.status-go.ensures) c.pass_begun.ensures.passes

pub pass_begun-returns-else-is_reader-clause-passes : goal.pass_begun-returns-else-is_reader-clause-passes
pass_begun-returns-else-is_reader-clause-passes t c =
    nothing_passed c.args.at.now.main c.args.s.now c.args.at.now.cell c.args.at.now.traps c.args.gate
    (env_of c.args.env.now) _

pub pass_parts-returns-in-Suspend-clause-passes : goal.pass_parts-returns-in-Suspend-clause-passes
pass_parts-returns-in-Suspend-clause-passes t c =
    rw (c.in-Suspend.is, sym c.deref.ensures) (c.pass_body.ensures.suspend c.args.gate _ _ refl)

pub pass_parts-returns-in-Seq-clause-passes : goal.pass_parts-returns-in-Seq-clause-passes
pass_parts-returns-in-Seq-clause-passes t c =
    rw (c.in-Seq.is, sym c.deref-in-Seq.ensures, sym c.deref-in-Seq-2.ensures)
    (c.pass_seq.ensures.passes c.args.gate _ _)

pub pass_parts-returns-in-Loop-clause-passes : goal.pass_parts-returns-in-Loop-clause-passes
pass_parts-returns-in-Loop-clause-passes t c =
    rw (c.in-Loop.is, sym c.deref-in-Loop.ensures) (c.pass_body-in-Loop.ensures.loops c.args.gate _ refl)

pub pass_parts-returns-in-Par-clause-passes : goal.pass_parts-returns-in-Par-clause-passes
pass_parts-returns-in-Par-clause-passes t c =
    rw (c.in-Par.is, sym c.deref-in-Par.ensures, sym c.deref-in-Par-2.ensures)
    (c.pass_par.ensures.passes c.args.gate _ _)

pub pass_parts-returns-in-Trap-clause-passes : goal.pass_parts-returns-in-Trap-clause-passes
pass_parts-returns-in-Trap-clause-passes t c =
    rw (c.in-Trap.is, sym c.deref-in-Trap.ensures) (c.pass_body-in-Trap.ensures.trap c.args.gate _ refl)

pub pass_begun-status-requires : goal.pass_begun-status-requires
pass_begun-status-requires t c =
    let least = size_least c.args.at.now.main c.args.s.now c.args.at.now.traps in
    omega (arith, c.requires.within)
