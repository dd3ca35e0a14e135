use Rattle.access_core.specs.declared.command.SlotCommand.TheVariants.{Move, Look, Audit}
use Rattle.access_core.proofs.Deciding.{allowed_step, denied_step}
use Rattle.access_core.proofs.slot_step.decide_slot.Goals as goal

pub returns-in-Err-clause-step : goal.returns-in-Err-clause-step
returns-in-Err-clause-step c = λ entries stands.
    let why = rw (c.permission_of-needed.ensures, c.number.ensures) at c.in-Err.ensures entries stands in
    denied_step _ _ _ _ _ _ why

pub returns-in-Move-clause-step : goal.returns-in-Move-clause-step
returns-in-Move-clause-step c = λ entries stands.
    let may = rw (c.permission_of-needed.ensures, c.number.ensures, c.in-Move.is) at c.in_default.ensures entries
    stands in
    rw c.in-Move.is
    (allowed_step entries c.args.slot.now.number c.args.session (Move c.in-Move.asked) _ _ _ may
    (c.make_move.ensures.step entries stands))

pub returns-in-Look-clause-step : goal.returns-in-Look-clause-step
returns-in-Look-clause-step c = λ entries stands.
    let may = rw (c.permission_of-needed.ensures, c.number.ensures, c.in-Look.is) at c.in_default.ensures entries
    stands in
    rw c.in-Look.is
    (allowed_step entries c.args.slot.now.number c.args.session (Look c.in-Look.instant) _ _ _ may
    (c.look.ensures entries stands))

pub returns-in-Audit-clause-step : goal.returns-in-Audit-clause-step
returns-in-Audit-clause-step c = λ entries stands.
    let may = rw (c.permission_of-needed.ensures, c.number.ensures, c.in-Audit.is) at c.in_default.ensures entries
    stands in
    rw c.in-Audit.is
    (allowed_step entries c.args.slot.now.number c.args.session Audit _ _ _ may (c.audit.ensures entries stands))
