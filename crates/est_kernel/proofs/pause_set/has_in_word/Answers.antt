use Rattle.std.proofs.Common.{sym, arith}
use Rattle.est_kernel.proofs.PauseSets.{least_in_word, none_in_word}
use Rattle.est_kernel.proofs.pause_set.has_in_word.Goals as goal

pub returns-then-rest-eq0 : goal.returns-then-rest-eq0
returns-then-rest-eq0 c = sym (none_in_word c.args.word c.args.first c.args.count (omega (arith, c.if-rest-eq0.true)))

pub returns : goal.returns
returns c = sym (least_in_word c.args.word c.args.first c.args.count (omega (arith, c.if-rest-eq0.false))
    (omega (arith, c.ranges.word.fits)))
