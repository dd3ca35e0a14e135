use Rattle.est_kernel.proofs.Masks.{bits_zero}
use Rattle.est_meaning.proofs.SignalSets.{least_is}
use Rattle.est_cover.proofs.part.first_in.Goals as goal

pub returns-then-signals-eq0 : goal.returns-then-signals-eq0
returns-then-signals-eq0 c = λ n. rw c.if-signals-eq0.true (bits_zero n)

pub returns : goal.returns
returns c = least_is c.args.signals c.if-signals-eq0.false c.ranges.signals.fits
