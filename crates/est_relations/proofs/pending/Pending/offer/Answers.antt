use Rattle.std.proofs.Common.{sym}
use Rattle.est_relations.specs.declared.refusal.PendingRefusal.TheVariants.{UnknownSignal}
use Rattle.est_relations.proofs.Answering.{refused_name}
use Rattle.est_relations.proofs.pending.Pending.offer.Goals as goal

pub returns-in-None : goal.returns-in-None
returns-in-None c =
    rw (← c.self.view_is)
    (refused_name _ c.args.name.now UnknownSignal c.self.invariant (sym c.in-None.ensures.place))
