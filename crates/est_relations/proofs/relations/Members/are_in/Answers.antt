use Rattle.est_kernel.specs.Bits.{bits}
use Rattle.est_relations.proofs.Members.{all_places}
use Rattle.est_relations.proofs.relations.Members.are_in.Goals as goal

pub returns : goal.returns
returns c = rw (c.are_all_in.ensures, c.deref.ensures.value, ← c.self.view_is)
    (all_places (bits c.args.signals) c.self.inside.signals.items)
