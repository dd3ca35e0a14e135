use Rattle.std.proofs.Common.{None}
use Rattle.std.specs.Prelude.{Some}
use Rattle.est_kernel.specs.Bits.{bits}
use Rattle.est_relations.proofs.Members.{place_found}
use Rattle.est_relations.proofs.relations.Members.first_in.Goals as goal

pub returns-in-Some : goal.returns-in-Some
returns-in-Some c = rw (← c.self.view_is)
    (place_found (bits c.args.signals) c.self.inside.signals.items (Some c.in-Some.member.now)
    (rw c.deref.ensures.value at c.in-Some.ensures))

pub returns-in-None : goal.returns-in-None
returns-in-None c = rw (← c.self.view_is)
    (place_found (bits c.args.signals) c.self.inside.signals.items None (rw c.deref.ensures.value at c.in-None.ensures))
