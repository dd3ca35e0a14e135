use Rattle.access_core.proofs.single.Single.slot.Goals as goal

pub invariant_of-self : goal.invariant_of-self
invariant_of-self c = (c.self.invariant.0, c.answer_slot.ensures.slots, c.self.invariant.2, c.self.invariant.3)

pub returns : goal.returns
returns c = rw (← c.self.view_is) (c.answer_slot.ensures.step c.self.inside.entries c.self.invariant.0)
