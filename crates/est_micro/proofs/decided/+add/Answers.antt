use Rattle.std.proofs.Common.{arith, rules, sym}
use Rattle.est_cells.proofs.Reach.{union_none}
use Rattle.est_meaning.specs.Views.{set_of}
use Rattle.est_micro.proofs.Emissions.{both_added, loop_added, again_added, local_added}
use Rattle.est_micro.proofs.Frames.{size_least}
use Rattle.est_micro.proofs.decided.+add.Goals as goal

pub add_both-returns : goal.add_both-returns
add_both-returns t c =
    both_added c.args.main c.args.p.now c.args.q.now c.args.cell c.args.traps _ _ _ _ _ _ c.add_part-past.ensures
    c.add_part.ensures

pub add_loop-returns : goal.add_loop-returns
add_loop-returns t c = λ a.
    loop_added c.args.main a c.args.p.now c.args.cell c.args.traps _ _ _ _ _ _ c.requires.main
    c.add_emitted-past.ensures c.add_emitted.ensures

pub add_local-returns : goal.add_local-returns
add_local-returns t c = λ a.
    local_added c.args.main c.args.s a c.args.p.now c.args.cell c.args.traps _ _ _ _ _ _ _
    c.no_signal-inside.ensures c.add_emitted-past.ensures c.all_but.ensures c.union_of.ensures

pub add_emitted-overflow_add-parts : goal.add_emitted-overflow_add-parts
add_emitted-overflow_add-parts t c =
    let least = size_least c.args.main c.args.s.now c.args.traps in
    search rules

pub add_emitted-overflow_add-parts-2 : goal.add_emitted-overflow_add-parts-2
add_emitted-overflow_add-parts-2 t c =
    let least = size_least c.args.main c.args.s.now c.args.traps in
    omega (arith, least, c.requires.within, c.args.net.now.cells.ok.0)

pub add_emitted-returns-in-Nothing : goal.add_emitted-returns-in-Nothing
add_emitted-returns-in-Nothing t c =
    rw c.in-Nothing.is (record { adds = sym (union_none (set_of c.args.emitted.now)); past_is = omega arith })

pub add_emitted-returns-in-Pause : goal.add_emitted-returns-in-Pause
add_emitted-returns-in-Pause t c =
    rw c.in-Pause.is (record { adds = sym (union_none (set_of c.args.emitted.now)); past_is = omega arith })

pub add_emitted-returns-in-Exit : goal.add_emitted-returns-in-Exit
add_emitted-returns-in-Exit t c =
    rw c.in-Exit.is (record { adds = sym (union_none (set_of c.args.emitted.now)); past_is = omega arith })

pub add_emitted-returns-then-main : goal.add_emitted-returns-then-main
add_emitted-returns-then-main t c = rw (c.in-Loop.is, sym c.deref-then-main.ensures) (c.add_loop.ensures _)

pub add_emitted-returns-else-main : goal.add_emitted-returns-else-main
add_emitted-returns-else-main t c =
    rw (c.in-Loop.is, sym c.deref-else-main.ensures)
    (again_added c.args.main _ _ c.args.cell c.args.traps _ _ _ _ c.if-main.false c.add_emitted-else-main.ensures)

pub add_emitted-returns-in-Local : goal.add_emitted-returns-in-Local
add_emitted-returns-in-Local t c = rw (c.in-Local.is, sym c.deref-in-Local.ensures) (c.add_local.ensures _)

pub add_part-returns-in-Nothing : goal.add_part-returns-in-Nothing
add_part-returns-in-Nothing t c =
    rw c.in-Nothing.is (record { adds = sym (union_none (set_of c.args.emitted.now)); past_is = omega arith })

pub add_part-returns-in-Pause : goal.add_part-returns-in-Pause
add_part-returns-in-Pause t c =
    rw c.in-Pause.is (record { adds = sym (union_none (set_of c.args.emitted.now)); past_is = omega arith })

pub add_part-returns-in-Exit : goal.add_part-returns-in-Exit
add_part-returns-in-Exit t c =
    rw c.in-Exit.is (record { adds = sym (union_none (set_of c.args.emitted.now)); past_is = omega arith })
