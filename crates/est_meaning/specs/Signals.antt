-- Sets of signals, by their tests (this project's own form).
use Rattle.std.specs.Prelude.{◌≡◌, ℕ, Bool, true, false, not, ◌&&◌, ◌||◌, nat_eq}
use Rattle.est_kernel.specs.Term.{Name, outer, inner}

-- a set of signals answers for each name whether it is a member
abbrev pub Signals : Type 0
Signals = Name → Bool

-- the empty set
unfoldable pub no_signals : Signals
no_signals s = false

-- whether two names are the same signal
abbrev pub same_name : Name → Name → Bool
same_name (outer n) (outer m) = nat_eq n m
same_name (inner n) (inner m) = nat_eq n m
same_name (outer n) (inner m) = false
same_name (inner n) (outer m) = false

-- the set of this signal alone
unfoldable pub only : Name → Signals
only s t = same_name s t

-- the members of either set
unfoldable pub union : Signals → Signals → Signals
union a b s = a s || b s

-- all members but this local signal
unfoldable pub without : ℕ → Signals → Signals
without s a t = not (same_name (inner s) t) && a t

-- a signal is a member of both sets
pub record Meet (a b : Signals) : Type 0 where
  pub common : Name
  pub in_first : a common ≡ true
  pub in_second : b common ≡ true
