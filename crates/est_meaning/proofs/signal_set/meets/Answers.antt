use Rattle.std.proofs.Common.{ap, not}
use Rattle.std.proofs.lemmas.Bool.{ne_eqb}
use Rattle.est_meaning.proofs.SignalSets.{meet_outer, meet_inner}
use Rattle.est_meaning.proofs.signal_set.meets.Goals as goal

pub returns-then-intersection-ne0 : goal.returns-then-intersection-ne0
returns-then-intersection-ne0 c = (
  λ r. meet_outer c.args.a c.args.b _ c.if-intersection-ne0.true c.intersection.type_inv c.intersection.ensures,
  λ m. ap not (ne_eqb _ _ c.if-intersection-ne0.true),
)

pub returns-else-intersection-ne0 : goal.returns-else-intersection-ne0
returns-else-intersection-ne0 c =
    meet_inner c.args.a c.args.b _ _ c.if-intersection-ne0.false c.intersection-else-intersection-ne0.type_inv
    c.intersection.ensures c.intersection-else-intersection-ne0.ensures
