-- The terms that the code's values stand for: private to this crate.
use Rattle.std.specs.Prelude.{ℕ, Bool, cond}
use Rattle.est_kernel.specs.Term.{Term, nothing, pause, emit, present, suspend, held, seq, loop, par, trap, exit}
use Rattle.est_kernel.specs.Term.{signal}
use Rattle.est_kernel.specs.Pauses.{pauses_of}
use Rattle.est_kernel.specs.View.{name_of, query_of, term_of}
use Rattle.est_kernel.specs.declared.statement.Statement.{Statement}
use Rattle.est_meaning.specs.States.{is_live, term_at}
use Rattle.est_left.specs.declared.head.Rest.{Rest}
use Rattle.est_left.specs.declared.head.Rest.TheVariants.{Nothing as Ended, Whole, Left}
use Rattle.est_left.specs.declared.head.Head.{Head}
use Rattle.est_left.specs.declared.head.Head.TheVariants.{Nothing, Pause, Emit, Present, Suspend, Held, Seq, Loop, Par}
use Rattle.est_left.specs.declared.head.Head.TheVariants.{Trap, Exit, Local}

-- what is left of a side of `||`
abbrev pub side_term : Statement → (ℕ → Bool) → Term
side_term s bits = cond (is_live s bits) (term_at s bits) nothing

-- the term
abbrev pub rest_term : Rest → Term
rest_term Ended = nothing
rest_term (Whole s) = term_of s.now
rest_term (Left s pauses) = term_at s.now (pauses_of pauses.now)

-- the term with this head
abbrev pub head_term : Head → Term
head_term Nothing = nothing
head_term Pause = pause
head_term (Emit s) = emit (name_of s)
head_term (Present t p q) = present (query_of t.now) (rest_term p) (rest_term q)
head_term (Suspend t p) = suspend (query_of t.now) (rest_term p)
head_term (Held t p) = held (query_of t.now) (rest_term p)
head_term (Seq p q) = seq (rest_term p) (rest_term q)
head_term (Loop p) = loop (rest_term p)
head_term (Par p q) = par (rest_term p) (rest_term q)
head_term (Trap p) = trap (rest_term p)
head_term (Exit k) = exit k.index
head_term (Local s p) = signal s.index (rest_term p)
