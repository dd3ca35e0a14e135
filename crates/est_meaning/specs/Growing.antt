-- A reaction is never taken back when more becomes known (this project's own form).
use Rattle.std.specs.Prelude.{ℕ}
use Rattle.est_kernel.specs.Term.{Term}
use Rattle.est_meaning.specs.Environments.{Env}
use Rattle.est_meaning.specs.Knowledge.{KnowsLess}
use Rattle.est_meaning.specs.Rules.{Gives}
use Rattle.est_meaning.specs.Signals.{Signals}

-- Reactions stay. Why care: what a term does where some inputs are still unknown is what it does whatever they turn out
-- to be, so one look answers for all of them. Where the rules give a term signals, a code and a next term, they give
-- the
-- same in each environment in which more is known
abbrev pub ReactionsStay : Type 0
ReactionsStay = (t : Term) (e f : Env) → KnowsLess e f → (o : Signals) (k : ℕ) (u : Term)
    → Gives t e o k u → Gives t f o k u
