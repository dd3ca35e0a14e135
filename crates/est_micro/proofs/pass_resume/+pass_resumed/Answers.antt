use Rattle.std.proofs.Common.{◌∙◌, arith, refl, sym, true, false, ◌≡◌}
use Rattle.est_kernel.specs.Pauses.{pauses_of}
use Rattle.est_meaning.specs.Views.{env_of}
use Rattle.est_micro.proofs.Frames.{size_least}
use Rattle.est_micro.proofs.PassedNodes.{ends_by, loop_on_passed, nothing_passed_on, par_on_passed}
use Rattle.est_micro.proofs.PassedNodes.{seq_on_later, seq_on_passed}
use Rattle.est_micro.proofs.pass_resume.+pass_resumed.Goals as goal

pub pass_resumed-returns-else-is_reader-clause-passes : goal.pass_resumed-returns-else-is_reader-clause-passes
pass_resumed-returns-else-is_reader-clause-passes t c =
    nothing_passed_on c.args.s.now (pauses_of c.args.pauses.now) c.args.at.now.cell c.args.at.now.traps c.args.run
    (env_of c.args.env.now) _

pub pass_side-returns-then-is_live-clause-passes : goal.pass_side-returns-then-is_live-clause-passes
pass_side-returns-then-is_live-clause-passes t c = record {
  on = λ z. c.pass_resumed.ensures.passes;
  off = λ z. let x : true ≡ false = sym c.if-is_live.true ∙ (c.is_live.ensures ∙ z) in cc;
}

pub pass_side-returns-else-is_live-clause-passes : goal.pass_side-returns-else-is_live-clause-passes
pass_side-returns-else-is_live-clause-passes t c = record {
  on = λ z. let x : false ≡ true = sym c.if-is_live.false ∙ (c.is_live.ensures ∙ z) in cc;
  off = λ z. refl;
}

pub pass_resumed_par-returns-clause-passes : goal.pass_resumed_par-returns-clause-passes
pass_resumed_par-returns-clause-passes t c = λ a b.
    par_on_passed (pauses_of c.args.pauses.now) a c.args.p.now b c.args.q.now c.args.at.now.cell c.args.at.now.traps
    c.args.run (env_of c.args.env.now) _ _ _ _ (rw c.requires.main at c.past.ensures) c.pass_side.ensures.passes
    c.pass_side-2.ensures.passes

pub pass_resumed_first-returns-clause-passes : goal.pass_resumed_first-returns-clause-passes
pass_resumed_first-returns-clause-passes t c = λ a b.
    seq_on_passed (pauses_of c.args.pauses.now) a c.args.p.now b c.args.q.now c.args.at.now.cell c.args.at.now.traps
    c.args.run _ (env_of c.args.env.now) _ _ _ _ c.requires.live (rw c.requires.main at c.past.ensures)
    c.pass_resumed.ensures.passes
    (ends_by c.args.p.now (pauses_of c.args.pauses.now) _ _ _ _ c.status-ends.ensures)
    (rw c.requires.main at c.pass_begun.ensures.passes)

pub pass_resumed_loop-returns-clause-passes : goal.pass_resumed_loop-returns-clause-passes
pass_resumed_loop-returns-clause-passes t c = λ a.
    loop_on_passed (pauses_of c.args.pauses.now) a c.args.p.now c.args.at.now.cell c.args.at.now.traps
    c.args.run _ (env_of c.args.env.now) _ _ _ _ (rw c.requires.main at c.past.ensures)
    c.pass_resumed.ensures.passes
    (ends_by c.args.p.now (pauses_of c.args.pauses.now) _ _ _ _ c.status-ends.ensures) c.pass_begun.ensures.passes

pub pass_resumed_parts-returns-in-Seq-clause-passes : goal.pass_resumed_parts-returns-in-Seq-clause-passes
pass_resumed_parts-returns-in-Seq-clause-passes t c =
    rw (c.in-Seq.is, sym c.deref.ensures, sym c.deref-in-Seq.ensures) (c.pass_resumed_seq.ensures.passes _ _)

pub pass_resumed_parts-returns-in-Par-clause-passes : goal.pass_resumed_parts-returns-in-Par-clause-passes
pass_resumed_parts-returns-in-Par-clause-passes t c =
    rw (c.in-Par.is, sym c.deref-in-Par.ensures, sym c.deref-in-Par-2.ensures) (c.pass_resumed_par.ensures.passes _ _)

pub pass_resumed_parts-returns-in-Loop-clause-passes : goal.pass_resumed_parts-returns-in-Loop-clause-passes
pass_resumed_parts-returns-in-Loop-clause-passes t c =
    rw (c.in-Loop.is, sym c.deref-in-Loop.ensures) (c.pass_resumed_loop.ensures.passes _)

pub pass_resumed_seq-returns-clause-passes : goal.pass_resumed_seq-returns-clause-passes
pass_resumed_seq-returns-clause-passes t c = λ a b.
    seq_on_later (pauses_of c.args.pauses.now) a c.args.p.now b c.args.q.now c.args.at.now.cell c.args.at.now.traps
    c.args.run (env_of c.args.env.now) _ _ _ (sym c.is_live.ensures ∙ c.if-is_live.false)
    (rw c.requires.main at c.past.ensures) c.pass_resumed.ensures.passes

pub pass_resumed_first-status-ends-requires : goal.pass_resumed_first-status-ends-requires
pass_resumed_first-status-ends-requires t c =
    let least = size_least true c.args.p.now c.args.at.now.traps in
    let size = c.pass_resumed.ensures.passes.changes.size in
    omega (arith, c.requires.within)

pub pass_resumed_loop-status-ends-requires : goal.pass_resumed_loop-status-ends-requires
pass_resumed_loop-status-ends-requires t c =
    let least = size_least true c.args.p.now c.args.at.now.traps in
    let size = c.pass_resumed.ensures.passes.changes.size in
    omega (arith, c.requires.within)
