use Rattle.std.proofs.Common.{arith}
use Rattle.est_host.proofs.answering.put.Goals as goal
use Rattle.est_host.specs.Answers.{puts, beyond}

pub returns-then-place-ge65 : goal.returns-then-place-ge65
returns-then-place-ge65 c = beyond (omega (arith, c.if-place-ge65.true))

pub returns : goal.returns
returns c = puts (omega (arith, c.if-place-ge65.false))
