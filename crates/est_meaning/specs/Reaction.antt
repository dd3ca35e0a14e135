-- The reaction of a term to the inputs of an instant (Berry, The Constructive Semantics of Pure Esterel; that the
-- outputs are decided by rounds is this project's own form).
use Rattle.std.specs.Prelude.{◌≡◌, ℕ, Bool, ◌&&◌}
use Rattle.est_kernel.specs.Term.{outer, Term}
use Rattle.est_meaning.specs.Signals.{Signals}
use Rattle.est_meaning.specs.Environments.{is_unknown}
use Rattle.est_meaning.specs.Rules.{Gives, HasNoRule}
use Rattle.est_meaning.specs.Rounds.{JudgedSignals, last_env}

-- t reacts to the inputs: in the last round's environment the rules give signals, a code and the next term u, and
-- `outputs` are those of the signals that are of the interface. There is one such set of signals, one code and one next
-- term at most (`OneReactionAtMost`)
pub record Reacts (j : JudgedSignals) (inputs : ℕ → Bool) (t : Term) (outputs : ℕ → Bool) (u : Term) : Type 0 where
  pub signals : Signals
  pub code : ℕ
  pub gives : Gives t (last_env j inputs t) signals code u
  pub seen : (n : ℕ) → outputs n ≡ signals (outer n)

-- t has no reaction to the inputs
abbrev pub CannotReact : JudgedSignals → (ℕ → Bool) → Term → Type 0
CannotReact j inputs t = HasNoRule t (last_env j inputs t)

-- whether this interface signal is judged and still unknown in the last round's environment
abbrev pub is_undecided : JudgedSignals → (ℕ → Bool) → Term → ℕ → Bool
is_undecided j inputs t n = j.has n && is_unknown (last_env j inputs t (outer n))
