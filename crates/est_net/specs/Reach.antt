-- Which signals of the interface may be emitted in an instant, whatever their tests say (this project's own form of the
-- can-analysis in Berry, The Constructive Semantics of Pure Esterel).
use Rattle.std.specs.Prelude.{◌≡◌, ℕ, Bool, true, false, ◌&&◌, ◌||◌, List, [], ◌∷◌}
use Rattle.est_kernel.specs.Bits.{bits}
use Rattle.est_kernel.specs.Pauses.{pauses_of}
use Rattle.est_kernel.specs.Term.{outer}
use Rattle.est_kernel.specs.View.{name_of}
use Rattle.est_kernel.specs.declared.state.State.{State}
use Rattle.est_kernel.specs.declared.state.State.TheVariants.{Fresh, Done, Paused}
use Rattle.est_kernel.specs.declared.statement.Statement.{Statement}
use Rattle.est_kernel.specs.declared.statement.Statement.TheVariants.{Nothing, Pause, Emit, Present', Suspend', Seq'}
use Rattle.est_kernel.specs.declared.statement.Statement.TheVariants.{Loop', Par', Trap', Exit, Local' as Binder'}
use Rattle.est_meaning.specs.Environments.{Env}
use Rattle.est_meaning.specs.MustCan.{can, sure}
use Rattle.est_meaning.specs.Signals.{same_name}
use Rattle.est_meaning.specs.States.{state_term}
use Rattle.est_net.specs.declared.reach.FromPause.{FromPause}
use Rattle.est_net.specs.declared.reach.Reach.{Reach}

-- a set has every signal of the interface that can be emitted in an instant that begins in this state, whatever is
-- known
abbrev pub HasEmissions : Statement → State → (ℕ → Bool) → Type 0
HasEmissions s x set = (e : Env) (n : ℕ) → (can (state_term s x) sure e).signals (outer n) ≡ true → set n ≡ true

-- whether signal n of the interface may be emitted once a statement is begun, where `end` says it of what follows
-- its end in the same instant, and `exit` of what follows its exit of a trap
abbrev pub may_emit : ℕ → Statement → (end exit : Bool) → Bool
may_emit n Nothing end exit = end
may_emit n (Pause i) end exit = false
may_emit n (Emit s) end exit = same_name (name_of s) (outer n) || end
may_emit n (Present' t a p b q) end exit = may_emit n p end exit || may_emit n q end exit
may_emit n (Suspend' t a p) end exit = may_emit n p end exit
may_emit n (Seq' a p b q) end exit = may_emit n p (may_emit n q end exit) exit
may_emit n (Loop' a p) end exit = may_emit n p end exit
may_emit n (Par' a p b q) end exit = may_emit n p end exit || may_emit n q end exit
may_emit n (Trap' a p) end exit = may_emit n p end (end || exit)
may_emit n (Exit k) end exit = exit
may_emit n (Binder' s a p) end exit = may_emit n p end exit

-- `told` says of a set of pauses whether signal n may be emitted in an instant that goes on from them. It has to say
-- yes if the set has a pause of the statement after whose end n may be emitted
abbrev pub Tells : ℕ → Statement → (end exit : Bool) → ((ℕ → Bool) → Bool) → Type 0
Tells n Nothing end exit told = Unit {0}
Tells n (Pause i) end exit told = (pauses : ℕ → Bool) → pauses i.index ≡ true → end ≡ true → told pauses ≡ true
Tells n (Emit s) end exit told = Unit {0}
Tells n (Present' t a p b q) end exit told = Tells n p end exit told × Tells n q end exit told
Tells n (Suspend' t a p) end exit told = Tells n p end exit told
Tells n (Seq' a p b q) end exit told = Tells n p (may_emit n q end exit) exit told × Tells n q end exit told
Tells n (Loop' a p) end exit told = Tells n p (may_emit n p end exit) exit told
Tells n (Par' a p b q) end exit told = Tells n p end exit told × Tells n q end exit told
Tells n (Trap' a p) end exit told = Tells n p end (end || exit) told
Tells n (Exit k) end exit told = Unit {0}
Tells n (Binder' s a p) end exit told = Tells n p end exit told

-- whether signal n may be emitted in an instant that goes on from these pauses, by a list of what each pause may emit
abbrev pub from_pauses : List FromPause → (ℕ → Bool) → ℕ → Bool
from_pauses [] pauses n = false
from_pauses (x ∷ xs) pauses n = (pauses x.pause.index && bits x.signals n) || from_pauses xs pauses n

-- whether signal n may be emitted in an instant that begins in this state
abbrev pub from_state : Reach → State → ℕ → Bool
from_state r Fresh n = bits r.first n
from_state r Done n = false
from_state r (Paused p) n = from_pauses r.pauses.items (pauses_of p) n

-- what may be emitted by a statement that nothing follows, begun or going on
pub record IsReachOf (r : Reach) (s : Statement) : Type 0 where
  pub first : (n : ℕ) → bits r.first n ≡ may_emit n s false false
  pub later : (n : ℕ) → Tells n s false false (λ pauses. from_pauses r.pauses.items pauses n)
