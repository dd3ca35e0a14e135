use Rattle.est_relations.proofs.pending.Pending.offer_signal.Goals as goal

pub returns-in-Ok : goal.returns-in-Ok
returns-in-Ok c = λ name. rw (← c.self.view_is) (c.in-Ok.ensures.answer name)

pub returns-in-Err : goal.returns-in-Err
returns-in-Err c = λ name. rw (← c.self.view_is) (c.in-Err.ensures.answer name)
