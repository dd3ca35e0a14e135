use Rattle.std.proofs.Common.{◌≡◌, take}
use Rattle.est_reduce.proofs.reduce.copied.Given as goal

abbrev pub invariant-loop-declaration : goal.invariant-loop-declaration
invariant-loop-declaration l = l.copy ≡ take l.declaration-index l.interface
