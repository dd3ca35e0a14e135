use Rattle.access_core.proofs.slot.Slot.make_move.Goals as goal

pub returns-in-Load-clause-step : goal.returns-in-Load-clause-step
returns-in-Load-clause-step c = λ entries stands.
    rw (c.in-Load.is, ← c.stamp.ensures entries stands) c.load.ensures.step

pub returns-in-Offer-clause-step : goal.returns-in-Offer-clause-step
returns-in-Offer-clause-step c = λ entries stands.
    rw (c.in-Offer.is, ← c.stamp-in-Offer.ensures entries stands) c.offer.ensures.step

pub returns-in-Discard-clause-step : goal.returns-in-Discard-clause-step
returns-in-Discard-clause-step c = λ entries stands.
    rw (c.in-Discard.is, ← c.stamp-in-Discard.ensures entries stands) c.discard.ensures.step

pub returns-in-Step-clause-step : goal.returns-in-Step-clause-step
returns-in-Step-clause-step c = λ entries stands. rw c.in-Step.is (c.step.ensures.step entries stands)

pub returns-in-Unload-clause-step : goal.returns-in-Unload-clause-step
returns-in-Unload-clause-step c = λ entries stands.
    rw (c.in-Unload.is, ← c.stamp-in-Unload.ensures entries stands) c.unload.ensures.step
