use Rattle.std.proofs.Common.{◌≡◌, ℕ, ◌+◌, ◌&&◌, nat_lt}
use Rattle.est_kernel.specs.Bits.{bits}
use Rattle.est_kernel.specs.Pauses.{pauses_of}
use Rattle.est_machine.proofs.saved.word_of.Given as goal

abbrev pub invariant-loop-bit : goal.invariant-loop-bit
invariant-loop-bit l = (n : ℕ) → bits l.word n ≡ (nat_lt n l.bit && pauses_of l.pauses (l.first + n))
