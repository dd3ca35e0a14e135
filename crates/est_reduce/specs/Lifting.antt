-- Terms put into one more trap (this project's own form): what the rows with a fresh trap do to the exits of their
-- parts.
use Rattle.std.specs.Prelude.{ℕ, zero, suc}
use Rattle.est_kernel.specs.Term.{Term, nothing, pause, emit, present, suspend, held, seq, loop, par, trap, exit}
use Rattle.est_kernel.specs.Term.{signal}

-- an exit inside d traps of the part itself: one that leaves all of them goes one trap further out
abbrev pub past : (d k : ℕ) → ℕ
past zero k = suc k
past (suc d) zero = zero
past (suc d) (suc k) = suc (past d k)

-- the part inside one more trap, which its exits pass
abbrev pub lifted : (d : ℕ) → Term → Term
lifted d nothing = nothing
lifted d pause = pause
lifted d (emit s) = emit s
lifted d (present s p q) = present s (lifted d p) (lifted d q)
lifted d (suspend s p) = suspend s (lifted d p)
lifted d (held s p) = held s (lifted d p)
lifted d (seq p q) = seq (lifted d p) (lifted d q)
lifted d (loop p) = loop (lifted d p)
lifted d (par p q) = par (lifted d p) (lifted d q)
lifted d (trap p) = trap (lifted (suc d) p)
lifted d (exit k) = exit (past d k)
lifted d (signal s p) = signal s (lifted d p)
