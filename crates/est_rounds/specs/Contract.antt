-- What an engine answers for a kernel, a state of it and the inputs of an instant (this project's own form, over the
-- definitions of est_meaning).
use Rattle.std.specs.Prelude.{◌≡◌, ℕ, Bool}
use Rattle.est_kernel.specs.Bits.{bits}
use Rattle.est_kernel.specs.Interfaces.{offerable}
use Rattle.est_kernel.specs.declared.kernel.Kernel.{Kernel}
use Rattle.est_kernel.specs.declared.state.State.{State}
use Rattle.est_kernel.specs.declared.state.Inputs.{Inputs}
use Rattle.est_kernel.specs.declared.state.Outcome.{Outcome}
use Rattle.est_kernel.specs.declared.state.Stuck.{Stuck}
use Rattle.est_meaning.specs.Knowledge.{IsIn}
use Rattle.est_meaning.specs.Rounds.{JudgedSignals, judged_signals}
use Rattle.est_meaning.specs.Reaction.{Reacts, CannotReact, is_undecided}
use Rattle.est_meaning.specs.States.{IsState, state_term}

-- the signals that the rounds judge for a kernel in an instant with these inputs: its outputs, and the inputoutputs
-- that are not offered
abbrev pub judged_of : Kernel → (ℕ → Bool) → JudgedSignals
judged_of k inputs = judged_signals k.interface inputs

-- each signal in the mask may be offered to the kernel
abbrev pub AreInputs : Kernel → Inputs → Type 0
AreInputs k i = IsIn (bits i.signals) (offerable k.interface)

-- the outcome is the reaction of the term that the state stands for: its outputs are those emitted, and its next state
-- stands for the next term
pub record IsReaction (k : Kernel) (x : State) (i : Inputs) (o : Outcome) : Type 0 where
  pub reacts : Reacts (judged_of k (bits i.signals)) (bits i.signals) (state_term k.root x) (bits o.outputs)
      (state_term k.root o.next)
  pub next : IsState k.root o.next

-- the term that the state stands for has no reaction, and the mask has exactly the outputs and inputoutputs that are
-- unknown after the last round
pub record HasNoReaction (k : Kernel) (x : State) (i : Inputs) (s : Stuck) : Type 0 where
  pub cannot : CannotReact (judged_of k (bits i.signals)) (bits i.signals) (state_term k.root x)
  pub undecided : (n : ℕ) → bits s.undecided n ≡ is_undecided (judged_of k (bits i.signals)) (bits i.signals)
      (state_term k.root x) n
