-- A step of a statement, with the pauses at which it then stands (this project's own form).
use Rattle.std.specs.Prelude.{◌≡◌, ℕ, Bool, nat_eq}
use Rattle.est_kernel.specs.Term.{Term}
use Rattle.est_meaning.specs.States.{is_live, term_at, IsExclusive}
use Rattle.est_kernel.specs.declared.statement.Statement.{Statement}
use Rattle.est_meaning.specs.Signals.{Signals}
use Rattle.est_meaning.specs.Environments.{Env}
use Rattle.est_meaning.specs.Rules.{Gives, rest_of}

-- by the rules t gives o and k, and the pauses of s that are set stand for what is left of it
pub record StepsTo (s : Statement) (t : Term) (e : Env) (o : Signals) (k : ℕ) (next : ℕ → Bool) : Type 0 where
  pub gives : Gives t e o k (rest_of k (term_at s next))
  pub live : is_live s next ≡ nat_eq k 1
  pub exclusive : IsExclusive s next
