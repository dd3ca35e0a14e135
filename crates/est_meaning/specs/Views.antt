-- What sets of signals stand for, and what is known of signals by two of them (this project's own form).
use Rattle.std.specs.Prelude.{ℕ, Bool, cond}
use Rattle.est_kernel.specs.Bits.{bits}
use Rattle.est_kernel.specs.Term.{outer, inner}
use Rattle.est_meaning.specs.Signals.{Signals, same_name}
use Rattle.est_meaning.specs.Environments as meaning
use Rattle.est_meaning.specs.declared.signal_set.SignalSet.{SignalSet}
use Rattle.est_meaning.specs.declared.signal_set.Env.{Env}

-- two masks as a set of signals
unfoldable pub set_of : SignalSet → Signals
set_of s (outer n) = bits s.interface n
set_of s (inner n) = bits s.local n

-- the set with this local signal in it, or not
unfoldable pub with_member : Signals → ℕ → Bool → Signals
with_member a s is_in t = cond (same_name (inner s) t) is_in (a t)

-- what is present and what is possible, as an environment
unfoldable pub env_of : Env → meaning.Env
env_of e s = meaning.verdict (set_of e.present s) (set_of e.possible s)
