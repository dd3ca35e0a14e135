-- Rounds: they judge the interface's signals as if these were outermost local signals (this project's own form).
use Rattle.std.specs.Prelude.{ℕ, zero, suc, ◌+◌, Bool, false, not, ◌&&◌, cond, List, length}
use Rattle.est_kernel.specs.Interfaces.{emittable}
use Rattle.est_kernel.specs.Term.{outer, inner, Term}
use Rattle.est_kernel.specs.declared.interface.Declaration.{Declaration}
use Rattle.est_meaning.specs.declared.status.Status.TheVariants.{Absent, Unknown}
use Rattle.est_meaning.specs.Environments.{Env, verdict}
use Rattle.est_meaning.specs.MustCan.{must, can, sure}

-- the interface signals that the rounds judge: those below `places` for which the test holds
pub record JudgedSignals : Type 0 where
  pub places : ℕ
  pub has : ℕ → Bool

-- the signals of an interface that the rounds judge in an instant with these inputs: those that may be emitted (outputs
-- and inputoutputs) and are not offered
abbrev pub judged_signals : List Declaration → (ℕ → Bool) → JudgedSignals
judged_signals interface inputs =
    record { places = length interface; has = λ n. emittable interface n && not (inputs n) }

-- the first environment: judged signals are unknown; any other signal is present exactly when it is an input of the
-- instant. So an inputoutput that is offered is present and stays so, and one that is not offered starts as unknown.
-- The entry of a local signal is never asked here: its binder sets it (`with_local`)
unfoldable pub first_env : JudgedSignals → (ℕ → Bool) → Env
first_env j inputs (outer n) = cond (j.has n) Unknown (verdict (inputs n) false)
first_env j inputs (inner n) = Absent

-- a round gives each judged signal the verdict on what the term must emit and can emit
unfoldable pub round : JudgedSignals → Term → Env → Env
round j t e (outer n) = cond (j.has n) (verdict ((must t e).signals (outer n)) ((can t sure e).signals (outer n)))
    (e (outer n))
round j t e (inner n) = e (inner n)

-- the environment after n rounds
abbrev pub env_after : ℕ → JudgedSignals → Term → Env → Env
env_after zero j t e = e
env_after (suc n) j t e = round j t (env_after n j t e)

-- how many of the first n places pass the test
abbrev pub how_many : (ℕ → Bool) → ℕ → ℕ
how_many f zero = 0
how_many f (suc n) = how_many f n + cond (f n) 1 0

-- the environment after as many rounds as there are judged signals: the last one
abbrev pub last_env : JudgedSignals → (ℕ → Bool) → Term → Env
last_env j inputs t = env_after (how_many j.has j.places) j t (first_env j inputs)
