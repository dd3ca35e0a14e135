use Rattle.std.proofs.Common.{rules, inl, inr, arith}
use Rattle.history_merge.proofs.Going.{state_on, refused_fault}
use Rattle.history_merge.proofs.Ending.{takes_falls, whole_events, all_match, count_differs}
use Rattle.history_merge.proofs.compare.compare.Goals as goal

pub loop-seat-preserved : goal.loop-seat-preserved
loop-seat-preserved c =
    let least = c.in-Some-next.ensures in
    state_on _ _ _ c.in-Some-next.seat _ c.loop-seat.taken c.take.new.taken c.loop-seat.invariant
    (let a = least.inside in let b = c.requires.few in omega arith) least
    (c.in_default.ensures c.in-Some-next.seat least.inside) c.if-not-take.ensures

pub loop-seat-smaller : goal.loop-seat-smaller
loop-seat-smaller c =
    let least = c.in-Some-next.ensures in
    takes_falls _ _ _ c.in-Some-next.seat _ c.loop-seat.taken c.take.new.taken
    (let a = least.inside in let b = c.requires.few in let six = c.loop-seat.invariant.six.read in omega arith)
    least.next c.if-not-take.ensures

pub returns-then-not-take-clause-err : goal.returns-then-not-take-clause-err
returns-then-not-take-clause-err c =
    let least = c.in-Some-next.ensures in
    inr (record {
      seat = c.in-Some-next.seat;
      n = _;
      kept = _;
      here = least.next;
      named = c.name_mismatch.ensures;
      fault = refused_fault _ _ _ c.in-Some-next.seat _ c.loop-seat.taken c.loop-seat.invariant least.next
          c.if-not-take.ensures;
    })

pub returns-in-Some-find_count-clause-err : goal.returns-in-Some-find_count-clause-err
returns-in-Some-find_count-clause-err c =
    inl (count_differs _ _ _ c.loop-seat.taken _
    (whole_events _ _ _ c.loop-seat.taken c.loop-seat.invariant c.in_default-next.ensures)
    c.in-Some-find_count.ensures)

pub returns-in-None-clause-one : goal.returns-in-None-clause-one
returns-in-None-clause-one c =
    let counted = c.in-None.ensures in
    all_match _ _ _ c.loop-seat.taken (search rules)
    (whole_events _ _ _ c.loop-seat.taken c.loop-seat.invariant c.in_default-next.ensures) counted.slots
    counted.entries c.loop-seat.invariant.six
