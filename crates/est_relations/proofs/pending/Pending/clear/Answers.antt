use Rattle.est_relations.proofs.Answering.{nothing_pending}
use Rattle.est_relations.proofs.pending.Pending.clear.Goals as goal

pub invariant_of-self : goal.invariant_of-self
invariant_of-self c = nothing_pending c.self.inside.interface.now c.self.inside.relations.now
    c.self.invariant.over_inputs
