-- What is known of a kernel's signals in a state of it, round by round (this project's own form,
-- over the definitions of est_meaning).
use Rattle.std.specs.Prelude.{◌≡◌, ℕ, Bool, not, ◌&&◌}
use Rattle.est_kernel.specs.Bits.{bits}
use Rattle.est_kernel.specs.Term.{Term}
use Rattle.est_kernel.specs.declared.kernel.Kernel.{Kernel}
use Rattle.est_kernel.specs.declared.pause_set.PauseSet.{PauseSet}
use Rattle.est_kernel.specs.declared.state.State.{State}
use Rattle.est_meaning.specs.Rounds.{round, last_env}
use Rattle.est_meaning.specs.States.{state_term}
use Rattle.est_meaning.specs.Views.{env_of}
use Rattle.est_meaning.specs.declared.signal_set.Env.{Env as Known}
use Rattle.est_rounds.specs.Inner.Steps.{IsStep}
use Rattle.est_rounds.specs.Views.{judged_by}
use Rattle.est_rounds.specs.declared.judged.JudgedSignals.{JudgedSignals}
use Rattle.est_rounds.specs.declared.step.Step.{Step}

-- the term that the state of a kernel stands for
abbrev pub term_left : Kernel → State → Term
term_left k x = state_term k.root x

-- what is known after one more round
abbrev pub IsRound : Kernel → State → JudgedSignals → Known → Known → Type 0
IsRound k x j before after = env_of after ≡ round (judged_by j) (term_left k x) (env_of before)

-- what is known after the last round
abbrev pub IsLastRound : Kernel → State → JudgedSignals → ℕ → Known → Type 0
IsLastRound k x j inputs e = env_of e ≡ last_env (judged_by j) (bits inputs) (term_left k x)

-- whether a signal is judged and may be present, and is not known to be
abbrev pub is_left_open : JudgedSignals → Known → ℕ → Bool
is_left_open j e n = (bits j.signals n && bits e.possible.interface n) && not (bits e.present.interface n)

-- a kernel takes this step from the state, and then stands at these pauses
abbrev pub IsKernelStep : Step → Kernel → State → Known → PauseSet → Type 0
IsKernelStep step k x e next = IsStep step k.root (term_left k x) e next
