-- Loops whose bodies take time stay so.
use Rattle.std.specs.Prelude.{◌≡◌, ℕ, zero, suc, Bool, true, false, cond}
use Rattle.std.proofs.Common.{subst}
use Rattle.est_kernel.specs.Pauses.{pauses_of}
use Rattle.est_kernel.specs.StartCodes.{IsLoopSafe}
use Rattle.est_kernel.specs.Term.{Term, nothing, pause, emit, present, suspend, held, seq, loop, par, trap, exit}
use Rattle.est_kernel.specs.Term.{signal}
use Rattle.est_kernel.specs.View.{term_of}
use Rattle.est_kernel.specs.declared.state.State.{State}
use Rattle.est_kernel.specs.declared.state.State.TheVariants.{Fresh, Done, Paused}
use Rattle.est_kernel.specs.declared.statement.Statement.{Statement}
use Rattle.est_kernel.specs.declared.statement.Statement.TheVariants.{Nothing, Pause, Emit, Present', Suspend', Seq'}
use Rattle.est_kernel.specs.declared.statement.Statement.TheVariants.{Loop', Par', Trap', Exit, Local' as Binder'}
use Rattle.est_meaning.specs.Laws.{IsStateFor}
use Rattle.est_meaning.specs.MustCan.{sure, env_within}
use Rattle.est_meaning.specs.Rules.{Gives, rest_of, takes_first, takes_second, is_held, is_resumed, goes_on, ends_then}
use Rattle.est_meaning.specs.Signals.{Signals}
use Rattle.est_meaning.specs.States.{term_at, is_live, state_term}
use Rattle.est_meaning.specs.Environments.{Env}

safe_rest : (k : ℕ) (u v : Term) → v ≡ rest_of k u → IsLoopSafe u → IsLoopSafe v
safe_rest zero u v e h = rw e tt
safe_rest (suc zero) u v e h = rw e h
safe_rest (suc (suc k)) u v e h = rw e tt

-- so they do in what is left after a step
pub safe_after : (t : Term) (e : Env) (o : Signals) (k : ℕ) (u : Term) → IsLoopSafe t → Gives t e o k u → IsLoopSafe u
safe_after nothing e o k u i g = rw g.rest tt
safe_after pause e o k u i g = rw g.rest tt
safe_after (emit s) e o k u i g = rw g.rest tt
safe_after (exit n) e o k u i g = rw g.rest tt
safe_after (present s p q) e o k u i (takes_first v g) = safe_after p e o k u i.0 g
safe_after (present s p q) e o k u i (takes_second v g) = safe_after q e o k u i.1 g
safe_after (suspend s p) e o k u i g = safe_rest k (held s g.left) u g.rest (safe_after p e o k g.left i g.gives)
safe_after (held s p) e o k u i (is_held v g) = rw g.rest i
safe_after (held s p) e o k u i (is_resumed v g) = safe_rest k (held s g.left) u g.rest
    (safe_after p e o k g.left i g.gives)
safe_after (seq p q) e o k u i (goes_on d g) = safe_rest k (seq g.left q) u g.rest
    (safe_after p e o k g.left i.0 g.gives, i.1)
safe_after (seq p q) e o k u i (ends_then a b v x y z) = safe_after q e b k u i.1 y
safe_after (loop p) e o k u i g =
    safe_rest k (seq g.inside.left (loop p)) u g.inside.rest (safe_after p e o k g.inside.left i.0 g.inside.gives, i)
safe_after (par p q) e o k u i g =
    safe_rest k (par g.left_rest g.right_rest) u g.rest (
      safe_after p e g.left_signals g.left_code g.left_rest i.0 g.left_gives,
      safe_after q e g.right_signals g.right_code g.right_rest i.1 g.right_gives,
    )
safe_after (trap p) e o k u i g = safe_rest k (trap g.left) u g.rest (safe_after p e o g.body_code g.left i g.gives)
safe_after (signal s p) e o k u i g =
    safe_rest k (signal s g.left) u g.rest (safe_after p (env_within sure s p e) g.body_signals k g.left i g.gives)

safe_choice : (b : Bool) (t u : Term) → IsLoopSafe t → IsLoopSafe u → IsLoopSafe (cond b t u)
safe_choice true t u h g = h
safe_choice false t u h g = g

-- so they do in the term that set pauses stand for
safe_paused : (s : Statement) (bits : ℕ → Bool) → IsLoopSafe (term_of s) → IsLoopSafe (term_at s bits)
safe_paused Nothing bits i = tt
safe_paused (Pause n) bits i = tt
safe_paused (Emit s) bits i = tt
safe_paused (Exit k) bits i = tt
safe_paused (Present' t x p y q) bits i =
    safe_choice (is_live p bits) (term_at p bits) (term_at q bits) (safe_paused p bits i.0) (safe_paused q bits i.1)
safe_paused (Suspend' t x p) bits i = safe_paused p bits i
safe_paused (Seq' x p y q) bits i =
    safe_choice (is_live p bits) (seq (term_at p bits) (term_of q)) (term_at q bits) (safe_paused p bits i.0, i.1)
    (safe_paused q bits i.1)
safe_paused (Loop' x p) bits i = (safe_paused p bits i.0, i)
safe_paused (Par' x p y q) bits i = (
  safe_choice (is_live p bits) (term_at p bits) nothing (safe_paused p bits i.0) tt,
  safe_choice (is_live q bits) (term_at q bits) nothing (safe_paused q bits i.1) tt,
)
safe_paused (Trap' x p) bits i = safe_paused p bits i
safe_paused (Binder' s x p) bits i = safe_paused p bits i

-- so they do in the term of a state
safe_state : (s : Statement) → IsLoopSafe (term_of s) → (x : State) → IsLoopSafe (state_term s x)
safe_state s i Fresh = i
safe_state s i Done = tt
safe_state s i (Paused p) = safe_paused s (pauses_of p) i

-- in the term that a state stands for, loops' bodies take time
pub safe_for : (s : Statement) → IsLoopSafe (term_of s) → (x : State) (t : Term) → IsStateFor s x t → IsLoopSafe t
safe_for s i x t h = subst (λ (v : Term). IsLoopSafe v) h.term (safe_state s i x)
