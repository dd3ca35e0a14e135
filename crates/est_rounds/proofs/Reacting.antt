-- The reaction from the step of a kernel.
use Rattle.std.proofs.Common.{◌≡◌, ◌≢◌, ℕ, zero, suc, Bool, false, refl, subst}
use Rattle.est_kernel.specs.Bits.{bits}
use Rattle.est_kernel.specs.Pauses.{pauses_of}
use Rattle.est_kernel.specs.Term.{Term, nothing}
use Rattle.est_kernel.specs.PauseNumbers.{has_pause}
use Rattle.est_kernel.specs.declared.statement.Statement.{Statement}
use Rattle.est_kernel.specs.declared.pause_set.PauseSet.{PauseSet}
use Rattle.est_kernel.specs.declared.state.State.TheVariants.{Paused}
use Rattle.est_meaning.specs.Environments.{Env}
use Rattle.est_meaning.specs.Signals.{Signals}
use Rattle.est_meaning.specs.Rules.{Gives, rest_of}
use Rattle.est_meaning.specs.Rounds.{JudgedSignals, last_env}
use Rattle.est_meaning.specs.Reaction.{Reacts}
use Rattle.est_meaning.specs.States.{term_at, IsState, state_term}
use Rattle.est_meaning.specs.Steps.{StepsTo}
use Rattle.est_meaning.specs.Views.{set_of}
use Rattle.est_meaning.specs.declared.signal_set.SignalSet.{SignalSet}

-- a step of code 1 leaves a state of the statement
pub paused_state : (s : Statement) (t : Term) (e : Env) (o : Signals) (k : ℕ) (p : PauseSet) → k ≡ 1
    → StepsTo s t e o k (pauses_of p)
    → ((i : ℕ) → has_pause s i ≡ false → pauses_of p i ≡ false) → IsState s (Paused p)
paused_state s t e o k p z h own = record { live = rw z at h.live; exclusive = h.exclusive; own = own }

-- a step of code 1 is the reaction, and its pauses stand for the next term
pub paused_reacts : (j : JudgedSignals) (inputs : ℕ → Bool) (s : Statement) (t : Term) (e : Env) (o : SignalSet)
    (k : ℕ) (p : PauseSet) → e ≡ last_env j inputs t → k ≡ 1
    → StepsTo s t e (set_of o) k (pauses_of p) → Reacts j inputs t (bits o.interface) (state_term s (Paused p))
unfolding set_of
paused_reacts j inputs s t e o k p ee z h =
    record { signals = set_of o; code = 1; gives = rw (ee, z) at h.gives; seen = λ n. refl }

rest_nothing : (k : ℕ) (u : Term) → k ≢ 1 → rest_of k u ≡ nothing
rest_nothing zero u d = refl
rest_nothing (suc zero) u d = absurd (d refl)
rest_nothing (suc (suc k)) u d = refl

-- a step of another code leaves nothing
pub ended_reacts : (j : JudgedSignals) (inputs : ℕ → Bool) (s : Statement) (t : Term) (e : Env) (o : SignalSet)
    (k : ℕ) (n : ℕ → Bool) → e ≡ last_env j inputs t → k ≢ 1
    → StepsTo s t e (set_of o) k n → Reacts j inputs t (bits o.interface) nothing
unfolding set_of
ended_reacts j inputs s t e o k n ee d h = record {
  signals = set_of o;
  code = k;
  gives = subst (λ (u : Term). Gives t (last_env j inputs t) (set_of o) k u) (rest_nothing k (term_at s n) d)
      (rw ee at h.gives);
  seen = λ n. refl;
}
