use Rattle.std.proofs.Common.{arith, sym, append-nil}
use Rattle.lab_ties.specs.Ties.{ties_at}
use Rattle.lab_ties.proofs.Tying.{again_added, both_added, loop_tied, own_room, present_tied, suspend_tied}
use Rattle.lab_ties.proofs.ties.+add_ties.Goals as goal

pub tie_two-returns : goal.tie_two-returns
tie_two-returns t c =
    let a = c.args in
    both_added (λ p at. ties_at a.wanted p at a.net.now.cells.items) a.first.main a.first.at.number
    a.first.at.statement a.first.cell a.first.traps a.p.now a.q.now a.found.now.items _ _ c.in_ok-next.next
    c.in_ok-end.end c.in_ok-next.ensures c.in_ok-end.ensures

pub tie_loop-returns : goal.tie_loop-returns
tie_loop-returns t c =
    let a = c.args in
    again_added (λ p at. ties_at a.wanted p at a.net.now.cells.items) a.body.main a.body.at.number
    a.body.at.statement a.body.cell a.body.traps a.p.now a.found.now.items _ _ c.in_ok-next.next
    c.in_ok-end.end c.in_ok-next.ensures c.in_ok-end.ensures

pub tie_present-returns : goal.tie_present-returns
tie_present-returns t c = λ x y.
    let a = c.args in
    present_tied a.wanted a.place.main a.place.at.number a.place.at.statement a.place.cell a.place.traps
    a.test.now x a.p.now y a.q.now a.net.now.cells.items a.found.now.items _ _ c.in_ok-both.both _ _ _ _ _
    c.status.ensures c.status-branch.ensures c.status-other.ensures c.is_unanswered-left_open.ensures
    c.is_asked-is_tied.ensures c.in_ok-both.ensures c.in_ok-add_if.ensures

pub tie_suspend-returns : goal.tie_suspend-returns
tie_suspend-returns t c = λ x.
    let a = c.args in
    suspend_tied a.wanted a.place.main a.place.at.number a.place.at.statement a.place.cell a.place.traps
    a.test.now x a.p.now a.net.now.cells.items a.found.now.items _ _ c.in_ok-end.end _ _ _ _
    c.status.ensures c.status-pauses.ensures c.is_in_doubt-left_open.ensures c.is_asked-is_tied.ensures
    c.in_ok-end.ensures c.in_ok-add_if.ensures

pub add_ties-returns-in-Nothing : goal.add_ties-returns-in-Nothing
add_ties-returns-in-Nothing t c =
    let few = c.requires.statement in
    rw c.in-Nothing.is
    (record {
      tied = sym (append-nil _);
      statement = omega arith;
      cell = omega arith;
      numbers = omega arith;
      later = omega arith;
    })

pub add_ties-returns-in-Pause : goal.add_ties-returns-in-Pause
add_ties-returns-in-Pause t c =
    let few = c.requires.statement in
    rw c.in-Pause.is
    (record {
      tied = sym (append-nil _);
      statement = omega arith;
      cell = omega arith;
      numbers = omega arith;
      later = omega arith;
    })

pub add_ties-returns-in-Exit : goal.add_ties-returns-in-Exit
add_ties-returns-in-Exit t c =
    let few = c.requires.statement in
    rw c.in-Exit.is
    (record {
      tied = sym (append-nil _);
      statement = omega arith;
      cell = omega arith;
      numbers = omega arith;
      later = omega arith;
    })

pub add_ties-returns-in_ok-after_present-in-Present : goal.add_ties-returns-in_ok-after_present-in-Present
add_ties-returns-in_ok-after_present-in-Present t c =
    rw (c.in-Present.is, sym c.deref-in-Present.ensures, sym c.deref.ensures)
    (c.in_ok-after_present-in-Present.ensures _ _)

pub add_ties-returns-in_ok-after_suspend-in-Suspend : goal.add_ties-returns-in_ok-after_suspend-in-Suspend
add_ties-returns-in_ok-after_suspend-in-Suspend t c =
    rw (c.in-Suspend.is, sym c.deref-in-Suspend.ensures)
    (c.in_ok-after_suspend-in-Suspend.ensures _)

pub add_ties-returns-in_ok-after_loop-in-Loop : goal.add_ties-returns-in_ok-after_loop-in-Loop
add_ties-returns-in_ok-after_loop-in-Loop t c =
    let a = c.args in
    rw (c.in-Loop.is, sym c.deref-then-main.ensures)
    (loop_tied a.wanted a.place.main a.place.at.number a.place.at.statement a.place.cell a.place.traps _ _
    a.net.now.cells.items a.found.now.items _ _ c.if-main.true c.in_ok-after_loop-in-Loop.ensures)

pub add_ties-overflow_add-parts : goal.add_ties-overflow_add-parts
add_ties-overflow_add-parts t c =
    let least = own_room c.args.place.main c.args.s.now c.args.place.traps c.args.place.cell _ c.requires.within in
    omega (arith, least, c.requires.statement, c.args.net.now.cells.ok.0)

pub add_ties-overflow_add-parts-2 : goal.add_ties-overflow_add-parts-2
add_ties-overflow_add-parts-2 t c =
    let least = own_room c.args.place.main c.args.s.now c.args.place.traps c.args.place.cell _ c.requires.within in
    omega (arith, least, c.requires.statement, c.args.net.now.cells.ok.0)

pub add_ties-overflow_add-parts-3 : goal.add_ties-overflow_add-parts-3
add_ties-overflow_add-parts-3 t c =
    let least = own_room c.args.place.main c.args.s.now c.args.place.traps c.args.place.cell _ c.requires.within in
    omega (arith, least, c.requires.statement, c.args.net.now.cells.ok.0)
