use Rattle.std.proofs.Common.{arith}
use Rattle.est_net.proofs.CellSets.{first_bit_is, no_bit}
use Rattle.est_net.proofs.cell_set.first_bit.Goals as goal

pub returns-then-rest-eq0-clause-none : goal.returns-then-rest-eq0-clause-none
returns-then-rest-eq0-clause-none c = no_bit c.args.word c.args.from c.if-rest-eq0.true

pub returns-else-rest-eq0-clause-some : goal.returns-else-rest-eq0-clause-some
returns-else-rest-eq0-clause-some c =
    first_bit_is c.args.word c.args.from c.ranges.word.fits (omega (arith, c.if-rest-eq0.false))
    (omega (arith, c.ranges.word.fits))
