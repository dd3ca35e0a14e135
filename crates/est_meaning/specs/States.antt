-- The term that a statement stands for by the pauses that are set, and the states of a running statement (this
-- project's own form of the residual statements in Berry, The Constructive Semantics of Pure Esterel).
use Rattle.std.specs.Prelude.{◌≡◌, ℕ, Bool, true, false, cond, ◌&&◌, ◌||◌}
use Rattle.est_kernel.specs.Term.{Term, nothing, seq, loop, par, trap, signal, held}
use Rattle.est_kernel.specs.PauseNumbers.{has_pause}
use Rattle.est_kernel.specs.View.{term_of, query_of}
use Rattle.est_kernel.specs.Pauses.{pauses_of}
use Rattle.est_kernel.specs.declared.statement.Statement.{Statement}
use Rattle.est_kernel.specs.declared.statement.Statement.TheVariants.{Nothing, Pause, Emit, Present', Suspend', Seq'}
use Rattle.est_kernel.specs.declared.statement.Statement.TheVariants.{Loop', Par', Trap', Exit, Local' as Binder'}
use Rattle.est_kernel.specs.declared.state.State.{State}
use Rattle.est_kernel.specs.declared.state.State.TheVariants.{Fresh, Done, Paused}

-- whether a pause of the statement is set
abbrev pub is_live : Statement → (ℕ → Bool) → Bool
is_live Nothing bits = false
is_live (Pause n) bits = bits n.index
is_live (Emit s) bits = false
is_live (Present' t a p b q) bits = is_live p bits || is_live q bits
is_live (Suspend' t a p) bits = is_live p bits
is_live (Seq' a p b q) bits = is_live p bits || is_live q bits
is_live (Loop' a p) bits = is_live p bits
is_live (Par' a p b q) bits = is_live p bits || is_live q bits
is_live (Trap' a p) bits = is_live p bits
is_live (Exit k) bits = false
is_live (Binder' s a p) bits = is_live p bits

-- the term that a live statement stands for, by the pauses that are set
abbrev pub term_at : Statement → (ℕ → Bool) → Term
term_at Nothing bits = nothing
term_at (Pause n) bits = nothing
term_at (Emit s) bits = nothing
term_at (Present' t a p b q) bits = cond (is_live p bits) (term_at p bits) (term_at q bits)
term_at (Suspend' t a p) bits = held (query_of t) (term_at p bits)
term_at (Seq' a p b q) bits = cond (is_live p bits) (seq (term_at p bits) (term_of q)) (term_at q bits)
term_at (Loop' a p) bits = seq (term_at p bits) (loop (term_of p))
term_at (Par' a p b q) bits =
    par (cond (is_live p bits) (term_at p bits) nothing) (cond (is_live q bits) (term_at q bits) nothing)
term_at (Trap' a p) bits = trap (term_at p bits)
term_at (Exit k) bits = nothing
term_at (Binder' s a p) bits = signal s.index (term_at p bits)

-- no `;` and no `present` has pauses that are set on both sides
abbrev pub IsExclusive : Statement → (ℕ → Bool) → Type 0
IsExclusive Nothing bits = Unit {0}
IsExclusive (Pause n) bits = Unit {0}
IsExclusive (Emit s) bits = Unit {0}
IsExclusive (Present' t a p b q) bits =
    IsExclusive p bits × IsExclusive q bits × ((is_live p bits && is_live q bits) ≡ false)
IsExclusive (Suspend' t a p) bits = IsExclusive p bits
IsExclusive (Seq' a p b q) bits =
    IsExclusive p bits × IsExclusive q bits × ((is_live p bits && is_live q bits) ≡ false)
IsExclusive (Loop' a p) bits = IsExclusive p bits
IsExclusive (Par' a p b q) bits = IsExclusive p bits × IsExclusive q bits
IsExclusive (Trap' a p) bits = IsExclusive p bits
IsExclusive (Exit k) bits = Unit {0}
IsExclusive (Binder' s a p) bits = IsExclusive p bits

-- s can have paused at exactly these pauses: there is one, none stands on both sides of a `;` or a `present`, and each
-- is a pause of s
pub record HasPausedAt (s : Statement) (pauses : ℕ → Bool) : Type 0 where
  pub live : is_live s pauses ≡ true
  pub exclusive : IsExclusive s pauses
  pub own : (i : ℕ) → has_pause s i ≡ false → pauses i ≡ false

-- a state of s: not begun, ended, or paused at some of its pauses
abbrev pub IsState : Statement → State → Type 0
IsState s Fresh = Unit {0}
IsState s Done = Unit {0}
IsState s (Paused p) = HasPausedAt s (pauses_of p)

-- the term that a state of s stands for: the whole statement, nothing, or what its pauses leave
abbrev pub state_term : Statement → State → Term
state_term s Fresh = term_of s
state_term s Done = nothing
state_term s (Paused p) = term_at s (pauses_of p)
