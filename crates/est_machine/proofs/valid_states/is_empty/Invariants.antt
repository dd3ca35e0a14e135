use Rattle.std.proofs.Common.{◌≡◌, ◌<◌, ℕ, false}
use Rattle.est_kernel.specs.Pauses.{pauses_of}
use Rattle.est_machine.proofs.valid_states.is_empty.Given as goal

abbrev pub invariant-loop-index : goal.invariant-loop-index
invariant-loop-index l = (i : ℕ) → i < l.index → pauses_of l.pauses i ≡ false
