use Rattle.std.proofs.Common.{◌≡◌}
use Rattle.est_kernel.specs.Bits.{bits}
use Rattle.est_meaning.specs.Rounds.{first_env, env_after}
use Rattle.est_meaning.specs.States.{state_term}
use Rattle.est_meaning.specs.Views.{env_of}
use Rattle.est_rounds.specs.Views.{judged_by}
use Rattle.est_rounds.proofs.rounds.last_known.Given as goal

abbrev pub invariant-loop-i : goal.invariant-loop-i
invariant-loop-i l =
    let j = judged_by l.judged in
    env_of l.env ≡ env_after l.i j (state_term l.kernel.root l.state) (first_env j (bits l.inputs))
