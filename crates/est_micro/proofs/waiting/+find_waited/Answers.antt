use Rattle.std.proofs.Common.{refl, sym, ap, ◌∙◌, arith, rules}
use Rattle.est_meaning.specs.Environments.{and_status}
use Rattle.est_meaning.specs.declared.status.Status.{Status}
use Rattle.est_micro.proofs.Frames.{size_least}
use Rattle.est_micro.proofs.OpenTests.{two_wait, present_waits, suspend_waits, loop_waits, local_waits}
use Rattle.est_micro.proofs.waiting.+find_waited.Goals as goal

pub find_in_two-returns : goal.find_in_two-returns
find_in_two-returns t c =
    two_wait _ c.args.main c.args.p.now c.args.q.now c.args.cell c.args.traps _ _ _ _ _ _ _ c.find_waited-first.ensures
    c.find_waited-second.ensures c.or.ensures refl

pub find_in_present-returns : goal.find_in_present-returns
find_in_present-returns t c = λ a b.
    present_waits _ c.args.main c.args.test.now a c.args.p.now b c.args.q.now c.args.cell c.args.traps _ _ _ _ _ _ _ _
    _ c.status-go.ensures c.answer_to.ensures c.waits_at-own.ensures c.find_in_two-parts.ensures c.or.ensures refl

pub find_in_suspend-returns : goal.find_in_suspend-returns
find_in_suspend-returns t c = λ a.
    suspend_waits _ c.args.main c.args.test.now a c.args.p.now c.args.cell c.args.traps _ _ _ _ _ _ _ _ _ _
    c.suspend_status-is_asked.ensures c.answer_to-status.ensures
    (c.and-inside.ensures ∙ ap (λ (v : Status). and_status c.args.run v) c.opposite.ensures)
    c.waits_at-own.ensures c.find_waited-body.ensures c.or.ensures refl

pub find_in_loop-returns : goal.find_in_loop-returns
find_in_loop-returns t c = λ a.
    loop_waits _ c.args.main a c.args.p.now c.args.cell c.args.traps _ _ _ _ _ _ _ c.requires.main
    c.find_waited-first.ensures c.find_waited-again.ensures c.or.ensures refl

pub find_in_local-returns : goal.find_in_local-returns
find_in_local-returns t c = λ a.
    local_waits _ c.args.main c.args.s a c.args.p.now c.args.cell c.args.traps _ _ _ _ _ _ _ c.status.ensures
    c.set_local-inside.ensures c.find_waited.ensures

pub find_waited-returns-in-Present : goal.find_waited-returns-in-Present
find_waited-returns-in-Present t c = rw (c.in-Present.is, sym c.deref-in-Present.ensures, sym c.deref.ensures)
    (c.find_in_present.ensures _ _)

pub find_waited-returns-in-Suspend : goal.find_waited-returns-in-Suspend
find_waited-returns-in-Suspend t c = rw (c.in-Suspend.is, sym c.deref-in-Suspend.ensures) (c.find_in_suspend.ensures _)

pub find_waited-returns-then-main : goal.find_waited-returns-then-main
find_waited-returns-then-main t c = rw (c.in-Loop.is, sym c.deref-then-main.ensures) (c.find_in_loop.ensures _)

pub find_waited-returns-in-Local : goal.find_waited-returns-in-Local
find_waited-returns-in-Local t c = rw (c.in-Local.is, sym c.deref-in-Local.ensures) (c.find_in_local.ensures _)

pub find_waited-overflow_add-parts : goal.find_waited-overflow_add-parts
find_waited-overflow_add-parts t c =
    let least = size_least c.args.main c.args.s.now c.args.traps in
    search rules

pub find_waited-overflow_add-parts-2 : goal.find_waited-overflow_add-parts-2
find_waited-overflow_add-parts-2 t c =
    let least = size_least c.args.main c.args.s.now c.args.traps in
    omega (arith, least, c.requires.within, c.args.context.now.net.now.cells.ok.0)
