use Rattle.access_core.proofs.OneSlotStep.{one_slot_step}
use Rattle.access_core.proofs.laws.one_slot_answer.Goals as goal

pub returns : goal.returns
returns c = λ entries slot session command before r s a b x y ample ample_too.
    one_slot_step c.one_module.ensures
    (record { fault = c.one_load.ensures.fault; never_both = c.one_load.ensures.never_both })
    entries slot session before r s ample ample_too a b command x y
