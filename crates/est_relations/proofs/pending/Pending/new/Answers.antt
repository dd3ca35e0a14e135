use Rattle.est_relations.proofs.Answering.{nothing_pending}
use Rattle.est_relations.proofs.pending.Pending.new.Goals as goal

pub invariant_of-result : goal.invariant_of-result
invariant_of-result c = nothing_pending c.args.interface.now c.args.relations.now c.requires
