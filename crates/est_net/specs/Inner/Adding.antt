-- What adding the pauses of a statement to a list does (this project's own form).
use Rattle.std.specs.Prelude.{◌≡◌, ℕ, Bool, true, List}
use Rattle.est_kernel.specs.Bits.{bits}
use Rattle.est_kernel.specs.declared.statement.Statement.{Statement}
use Rattle.est_net.specs.Reach.{Tells, from_pauses, may_emit}
use Rattle.est_net.specs.declared.reach.FromPause.{FromPause}

-- the pauses of a statement are added to a list: it tells of them, and what it told before; `signals` may be emitted
-- once the statement is begun; `end` and `exit` may follow
pub record IsAdded (s : Statement) (end exit : ℕ → Bool) (old new : List FromPause) (signals : ℕ) : Type 0 where
  pub begun : (n : ℕ) → bits signals n ≡ may_emit n s (end n) (exit n)
  pub grown : (set : ℕ → Bool) (n : ℕ) → from_pauses old set n ≡ true → from_pauses new set n ≡ true
  pub tells : (n : ℕ) → Tells n s (end n) (exit n) (λ set. from_pauses new set n)
