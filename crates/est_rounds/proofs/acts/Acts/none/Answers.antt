use Rattle.std.proofs.Common.{refl}
use Rattle.est_rounds.proofs.acts.Acts.none.Goals as goal

pub returns : goal.returns
returns c = rw (c.no_signal.ensures, c.empty.ensures) refl
