use Rattle.slot_table.proofs.slot.decide_and_leave.Goals as goal

pub returns-in-Ok-clause-step : goal.returns-in-Ok-clause-step
returns-in-Ok-clause-step g c =
    let admitted = rw c.number.ensures at c.admit_load-admitted.ensures c.args.reading c.policy.ensures in
    rw c.in-Ok.ensures (c.load_admitted.ensures.step c.args.reading c.args.session admitted)
