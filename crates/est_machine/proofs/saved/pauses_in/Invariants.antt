use Rattle.std.proofs.Common.{◌≡◌, ℕ, ◌&&◌, nat_lt}
use Rattle.est_kernel.specs.Pauses.{pauses_of}
use Rattle.est_machine.specs.Inner.Words.{has_bit}
use Rattle.est_machine.proofs.saved.pauses_in.Given as goal

abbrev pub invariant-loop-index : goal.invariant-loop-index
invariant-loop-index l = (n : ℕ) → pauses_of l.pauses n ≡ (nat_lt n l.index && has_bit l.words n)
