use Rattle.est_relations.proofs.Answering.{missing_within, not_ready, all_hold}
use Rattle.est_relations.proofs.pending.Pending.ready.Goals as goal

pub get-requires : goal.get-requires
get-requires c =
    missing_within c.self.inside.interface.now c.self.inside.relations.now c.self.inside.inputs
    c.in-Some.lacking.relation c.in-Some.lacking.signal.index
    c.self.invariant.over_inputs (rw c.as_slice.ensures.all at c.in-Some.ensures)

pub returns-in-Some : goal.returns-in-Some
returns-in-Some c =
    rw (← c.self.view_is)
    (not_ready (record {
      interface = c.self.inside.interface.now;
      relations = c.self.inside.relations.now;
      inputs = c.self.inside.inputs;
    })
    c.in-Some.lacking.relation c.in-Some.lacking.signal.index c.get.result
    (rw c.as_slice.ensures.all at c.in-Some.ensures) c.get.ensures)

pub returns-in-None : goal.returns-in-None
returns-in-None c =
    rw (← c.self.view_is)
    (all_hold (record {
      interface = c.self.inside.interface.now;
      relations = c.self.inside.relations.now;
      inputs = c.self.inside.inputs;
    })
    (rw c.as_slice.ensures.all at c.in-None.ensures))
