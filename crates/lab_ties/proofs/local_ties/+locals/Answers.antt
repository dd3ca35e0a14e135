use Rattle.std.proofs.Common.{arith, sym, append-nil}
use Rattle.lab_ties.specs.Ties.{local_ties_at}
use Rattle.lab_ties.proofs.Tying.{again_added, both_added, local_loop_tied, local_tied, own_room}
use Rattle.lab_ties.proofs.local_ties.+locals.Goals as goal

pub tie_locals_of_two-returns : goal.tie_locals_of_two-returns
tie_locals_of_two-returns t c =
    let a = c.args in
    both_added (λ p at. local_ties_at p at a.net.now.cells.items) a.first.main a.first.at.number
    a.first.at.statement a.first.cell a.first.traps a.p.now a.q.now a.found.now.items _ _ c.in_ok-next.next
    c.in_ok-end.end c.in_ok-next.ensures c.in_ok-end.ensures

pub tie_locals_of_loop-returns : goal.tie_locals_of_loop-returns
tie_locals_of_loop-returns t c =
    let a = c.args in
    again_added (λ p at. local_ties_at p at a.net.now.cells.items) a.body.main a.body.at.number
    a.body.at.statement a.body.cell a.body.traps a.p.now a.found.now.items _ _ c.in_ok-next.next
    c.in_ok-end.end c.in_ok-next.ensures c.in_ok-end.ensures

pub tie_local-returns : goal.tie_local-returns
tie_local-returns t c = λ x.
    let a = c.args in
    local_tied a.place.main a.place.at.number a.place.at.statement a.place.cell a.place.traps a.name x a.p.now
    a.net.now.cells.items a.found.now.items _ _ c.in_ok-end.end c.in_ok-tie_own.ensures c.in_ok-end.ensures

pub tie_locals-returns-in-Nothing : goal.tie_locals-returns-in-Nothing
tie_locals-returns-in-Nothing t c =
    let few = c.requires.statement in
    rw c.in-Nothing.is
    (record {
      tied = sym (append-nil _);
      statement = omega arith;
      cell = omega arith;
      numbers = omega arith;
      later = omega arith;
    })

pub tie_locals-returns-in-Pause : goal.tie_locals-returns-in-Pause
tie_locals-returns-in-Pause t c =
    let few = c.requires.statement in
    rw c.in-Pause.is
    (record {
      tied = sym (append-nil _);
      statement = omega arith;
      cell = omega arith;
      numbers = omega arith;
      later = omega arith;
    })

pub tie_locals-returns-in-Emit : goal.tie_locals-returns-in-Emit
tie_locals-returns-in-Emit t c =
    let few = c.requires.statement in
    rw c.in-Emit.is
    (record {
      tied = sym (append-nil _);
      statement = omega arith;
      cell = omega arith;
      numbers = omega arith;
      later = omega arith;
    })

pub tie_locals-returns-in-Exit : goal.tie_locals-returns-in-Exit
tie_locals-returns-in-Exit t c =
    let few = c.requires.statement in
    rw c.in-Exit.is
    (record {
      tied = sym (append-nil _);
      statement = omega arith;
      cell = omega arith;
      numbers = omega arith;
      later = omega arith;
    })

pub tie_locals-returns-in_ok-after_loop-in-Loop : goal.tie_locals-returns-in_ok-after_loop-in-Loop
tie_locals-returns-in_ok-after_loop-in-Loop t c =
    let a = c.args in
    rw (c.in-Loop.is, sym c.deref-then-main.ensures)
    (local_loop_tied a.place.main a.place.at.number a.place.at.statement a.place.cell a.place.traps _ _
    a.net.now.cells.items a.found.now.items _ _ c.if-main.true c.in_ok-after_loop-in-Loop.ensures)

pub tie_locals-returns-in_ok-after_local-in-Local : goal.tie_locals-returns-in_ok-after_local-in-Local
tie_locals-returns-in_ok-after_local-in-Local t c =
    rw (c.in-Local.is, sym c.deref-in-Local.ensures)
    (c.in_ok-after_local-in-Local.ensures _)

pub tie_locals-overflow_add-parts : goal.tie_locals-overflow_add-parts
tie_locals-overflow_add-parts t c =
    let least = own_room c.args.place.main c.args.s.now c.args.place.traps c.args.place.cell _ c.requires.within in
    omega (arith, least, c.requires.statement, c.args.net.now.cells.ok.0)

pub tie_locals-overflow_add-parts-2 : goal.tie_locals-overflow_add-parts-2
tie_locals-overflow_add-parts-2 t c =
    let least = own_room c.args.place.main c.args.s.now c.args.place.traps c.args.place.cell _ c.requires.within in
    omega (arith, least, c.requires.statement, c.args.net.now.cells.ok.0)

pub tie_locals-overflow_add-parts-3 : goal.tie_locals-overflow_add-parts-3
tie_locals-overflow_add-parts-3 t c =
    let least = own_room c.args.place.main c.args.s.now c.args.place.traps c.args.place.cell _ c.requires.within in
    omega (arith, least, c.requires.statement, c.args.net.now.cells.ok.0)
