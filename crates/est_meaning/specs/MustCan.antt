-- What a term must do, and what it can do (Berry, The Constructive Semantics of Pure Esterel).
use Rattle.std.specs.Prelude.{ℕ, ◌+◌, Bool, true, false, cond}
use Rattle.est_kernel.specs.Term.{inner, Term, nothing, pause, emit, present, suspend, held, seq, loop, par, trap, exit}
use Rattle.est_kernel.specs.Term.{signal}
use Rattle.est_kernel.specs.Codes.{Codes, no_codes, code, either_code, but_zero, max_codes, codes_out_of_trap}
use Rattle.est_meaning.specs.Signals.{Signals, no_signals, only, union, without}
use Rattle.est_meaning.specs.declared.status.Status.{Status}
use Rattle.est_meaning.specs.declared.status.Status.TheVariants.{Unknown}
use Rattle.est_meaning.specs.Environments.{Env, status_of, with_local, verdict, by_status}

-- signals that are emitted, and codes that are given
pub record Acts : Type 0 where
  pub signals : Signals
  pub codes : Codes

-- nothing is decided, or nothing is possible
abbrev pub no_acts : Acts
no_acts = record { signals = no_signals; codes = no_codes }

-- this code alone, and no signal
abbrev pub just_code : ℕ → Acts
just_code k = record { signals = no_signals; codes = code k }

-- the acts of either
abbrev pub either : Acts → Acts → Acts
either a b = record { signals = union a.signals b.signals; codes = either_code a.codes b.codes }

-- the acts of both at once: the greater codes
abbrev pub together : Acts → Acts → Acts
together a b = record { signals = union a.signals b.signals; codes = max_codes a.codes b.codes }

-- the acts outside a trap
abbrev pub acts_out_of_trap : Acts → Acts
acts_out_of_trap a = record { signals = a.signals; codes = codes_out_of_trap a.codes }

-- the acts outside the binder of this local signal
abbrev pub hide : ℕ → Acts → Acts
hide s a = record { signals = without s a.signals; codes = a.codes }

-- the same acts, with code 1 added
abbrev pub may_stay : Acts → Acts
may_stay a = record { signals = a.signals; codes = either_code a.codes (code 1) }

-- what must be done in sequence: the second part is begun where the first must end
abbrev pub must_then : Acts → Acts → Acts
must_then a b = cond (a.codes 0) (record { signals = union a.signals b.signals; codes = b.codes }) a

-- what can be done in sequence: the second part is begun where the first can end
abbrev pub can_then : Acts → Acts → Acts
can_then a b =
    cond (a.codes 0) (record { signals = union a.signals b.signals; codes = either_code (but_zero a.codes) b.codes }) a

-- how surely a statement is reached: it must be, or it is not known
pub data Mode : Type 0 where
  sure : Mode
  maybe : Mode

-- the mode of what follows in sequence, by whether the first part must end
abbrev pub next_mode : Mode → Bool → Mode
next_mode sure true = sure
next_mode sure false = maybe
next_mode maybe must_end = maybe

-- the status of a local signal, by what its body must do and can do while it is unknown; a body in doubt decides no
-- presence
abbrev pub local_status : Mode → ℕ → Acts → Acts → Status
local_status sure s must_do can_do = verdict (must_do.signals (inner s)) (can_do.signals (inner s))
local_status maybe s must_do can_do = verdict false (can_do.signals (inner s))

-- Must: what a term surely does; Can: what it may do, where it is surely reached or in doubt
abbrev mutual
  pub must : Term → Env → Acts
  must nothing e = just_code 0
  must pause e = just_code 1
  must (emit s) e = record { signals = only s; codes = code 0 }
  must (present s p q) e = by_status (status_of e s) (must p e) (must q e) no_acts
  must (suspend s p) e = must p e
  must (held s p) e = by_status (status_of e s) (just_code 1) (must p e) no_acts
  must (seq p q) e = must_then (must p e) (must q e)
  must (loop p) e = must p e
  must (par p q) e = together (must p e) (must q e)
  must (trap p) e = acts_out_of_trap (must p e)
  must (exit k) e = just_code (k + 2)
  must (signal s p) e =
      let open_env = with_local e s Unknown in
      hide s (must p (with_local e s (local_status sure s (must p open_env) (can p sure open_env))))

  pub can : Term → Mode → Env → Acts
  can nothing m e = just_code 0
  can pause m e = just_code 1
  can (emit s) m e = record { signals = only s; codes = code 0 }
  can (present s p q) m e = by_status (status_of e s) (can p m e) (can q m e) (either (can p maybe e) (can q maybe e))
  can (suspend s p) m e = can p m e
  can (held s p) m e = by_status (status_of e s) (just_code 1) (can p m e) (may_stay (can p maybe e))
  can (seq p q) m e = can_then (can p m e) (can q (next_mode m ((must p e).codes 0)) e)
  can (loop p) m e = can p m e
  can (par p q) m e = together (can p m e) (can q m e)
  can (trap p) m e = acts_out_of_trap (can p m e)
  can (exit k) m e = just_code (k + 2)
  can (signal s p) m e =
      let open_env = with_local e s Unknown in
      hide s (can p m (with_local e s (local_status m s (must p open_env) (can p m open_env))))

-- the status of local signal s in the body p of its binder
abbrev pub status_within : Mode → ℕ → Term → Env → Status
status_within m s p e =
    let open_env = with_local e s Unknown in
    local_status m s (must p open_env) (can p m open_env)

-- the environment of the body p of local signal s
abbrev pub env_within : Mode → ℕ → Term → Env → Env
env_within m s p e = with_local e s (status_within m s p e)
