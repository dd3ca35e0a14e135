use Rattle.est_micro.proofs.Telling.{CodesSoFar}
use Rattle.est_micro.proofs.cells.read_codes.Given as goal

abbrev pub invariant-loop-code : goal.invariant-loop-code
invariant-loop-code l = CodesSoFar l.net.cells.items l.cell l.code l.read
