use Rattle.std.proofs.Common.{nat_eq}
use Rattle.est_relations.proofs.Members.{any_place}
use Rattle.est_relations.proofs.relations.Members.has.Goals as goal

pub returns : goal.returns
returns c = rw (c.is_among.ensures, c.deref.ensures.value, ← c.self.view_is)
    (any_place (nat_eq c.args.signal.index) c.self.inside.signals.items)
