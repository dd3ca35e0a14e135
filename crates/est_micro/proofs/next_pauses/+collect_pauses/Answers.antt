use Rattle.std.proofs.Common.{◌∙◌, ℕ, arith, sym}
use Rattle.est_kernel.specs.Pauses.{pauses_of}
use Rattle.est_cells.specs.Next.{stays}
use Rattle.est_net.specs.Cells.{cell_at}
use Rattle.est_net.specs.Layout.{sheet_in}
use Rattle.est_micro.proofs.Collecting.{two_collected, body_goes_on, body_stays, loop_collected}
use Rattle.est_micro.proofs.Collecting.{again_collected, local_collected, none_collected, some_collected}
use Rattle.est_micro.proofs.Frames.{size_least}
use Rattle.est_micro.proofs.next_pauses.+collect_pauses.Goals as goal

pub collect_pauses_of_two-returns-clause-present : goal.collect_pauses_of_two-returns-clause-present
collect_pauses_of_two-returns-clause-present t c = λ x a b. record {
  put_in = λ i. two_collected _ _ _ _
      (λ (z : ℕ). stays c.args.main c.args.q.now (pauses_of c.args.pauses.now)
      (sheet_in (cell_at c.args.net.now.cells.items) c.args.main c.args.q.now z c.args.traps) i) _ _
      (c.collect_pauses-2.ensures i) (c.collect_pauses.ensures i) c.past-past.ensures;
}

pub collect_pauses_of_two-returns-clause-seq : goal.collect_pauses_of_two-returns-clause-seq
collect_pauses_of_two-returns-clause-seq t c = λ a b. record {
  put_in = λ i. two_collected _ _ _ _
      (λ (z : ℕ). stays c.args.main c.args.q.now (pauses_of c.args.pauses.now)
      (sheet_in (cell_at c.args.net.now.cells.items) c.args.main c.args.q.now z c.args.traps) i) _ _
      (c.collect_pauses-2.ensures i) (c.collect_pauses.ensures i) c.past-past.ensures;
}

pub collect_pauses_of_two-returns-clause-par : goal.collect_pauses_of_two-returns-clause-par
collect_pauses_of_two-returns-clause-par t c = λ a b. record {
  put_in = λ i. two_collected _ _ _ _
      (λ (z : ℕ). stays c.args.main c.args.q.now (pauses_of c.args.pauses.now)
      (sheet_in (cell_at c.args.net.now.cells.items) c.args.main c.args.q.now z c.args.traps) i) _ _
      (c.collect_pauses-2.ensures i) (c.collect_pauses.ensures i) c.past-past.ensures;
}

pub collect_pauses_of_suspend-returns-then-gives_pause : goal.collect_pauses_of_suspend-returns-then-gives_pause
collect_pauses_of_suspend-returns-then-gives_pause t c = λ x a. record {
  put_in = λ i. body_goes_on _ _ _ _ _ (sym c.gives_pause.ensures ∙ c.if-gives_pause.true) (c.collect_pauses.ensures i);
}

pub collect_pauses_of_suspend-returns-else-gives_pause : goal.collect_pauses_of_suspend-returns-else-gives_pause
collect_pauses_of_suspend-returns-else-gives_pause t c = λ x a. record {
  put_in = λ i. body_stays _ _ _ _ _ (sym c.gives_pause.ensures ∙ c.if-gives_pause.false) (c.keep_pauses.ensures i);
}

pub collect_pauses_of_loop-returns : goal.collect_pauses_of_loop-returns
collect_pauses_of_loop-returns t c = λ a.
    loop_collected c.args.main c.args.cell c.args.traps a c.args.p.now _ c.args.pauses.now _ _ _ _
    c.requires.main c.past-past.ensures c.collect_pauses.ensures c.collect_pauses-2.ensures

pub collect_pauses-returns-then-gives_pause : goal.collect_pauses-returns-then-gives_pause
collect_pauses-returns-then-gives_pause t c = λ i.
    some_collected _ _ _ _ (sym c.gives_pause.ensures ∙ c.if-gives_pause.true)
    (c.collect_pauses_inside.ensures.put_in i)

pub collect_pauses-returns-else-gives_pause : goal.collect_pauses-returns-else-gives_pause
collect_pauses-returns-else-gives_pause t c = λ i.
    none_collected _ _ _ (sym c.gives_pause.ensures ∙ c.if-gives_pause.false)

pub collect_pauses_inside-returns-then-main : goal.collect_pauses_inside-returns-then-main
collect_pauses_inside-returns-then-main t c = rw (c.in-Loop.is, sym c.deref-then-main.ensures)
    (c.collect_pauses_of_loop.ensures _)

pub collect_pauses_inside-returns-else-main : goal.collect_pauses_inside-returns-else-main
collect_pauses_inside-returns-else-main t c =
    rw (c.in-Loop.is, sym c.deref-else-main.ensures)
    (again_collected c.args.main c.args.cell c.args.traps _ _ _ c.args.pauses.now _ _
    c.if-main.false c.collect_pauses.ensures)

pub collect_pauses-gives_pause-requires : goal.collect_pauses-gives_pause-requires
collect_pauses-gives_pause-requires t c =
    let least = size_least c.args.main c.args.s.now c.args.traps in
    omega (arith, least, c.requires.within)

pub collect_pauses_of_suspend-gives_pause-requires : goal.collect_pauses_of_suspend-gives_pause-requires
collect_pauses_of_suspend-gives_pause-requires t c =
    let least = size_least c.args.main c.args.p.now c.args.traps in
    omega (arith, least, c.requires.within)

pub collect_pauses_inside-returns-in-Suspend : goal.collect_pauses_inside-returns-in-Suspend
collect_pauses_inside-returns-in-Suspend t c =
    rw (c.in-Suspend.is, sym c.deref-in-Suspend.ensures) (c.collect_pauses_of_suspend.ensures _ _)

pub collect_pauses_inside-returns-in-Trap : goal.collect_pauses_inside-returns-in-Trap
collect_pauses_inside-returns-in-Trap t c =
    rw (c.in-Trap.is, sym c.deref-in-Trap.ensures) (record { put_in = c.collect_pauses-in-Trap.ensures })

pub collect_pauses_inside-returns-in-Local : goal.collect_pauses_inside-returns-in-Local
collect_pauses_inside-returns-in-Local t c =
    rw (c.in-Local.is, sym c.deref-in-Local.ensures)
    (local_collected c.args.main c.args.cell c.args.traps
    _ _ _ _ _ _ _ c.collect_pauses-in-Local.ensures)
