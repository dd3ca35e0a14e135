use Rattle.std.proofs.Common.{◌≡◌, ◌<◌, ℕ}
use Rattle.std.specs.Prelude.{slice_index}
use Rattle.est_machine.proofs.saved.is_of.Given as goal

abbrev pub invariant-loop-n : goal.invariant-loop-n
invariant-loop-n l = (i : ℕ) → i < l.n → slice_index l.words i ≡ slice_index l.digest i
