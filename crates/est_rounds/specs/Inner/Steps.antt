-- What a statement answers as it begins and as it goes on (this project's own form).
use Rattle.std.specs.Prelude.{◌≡◌, ℕ, Bool, true, false, ◌||◌, ◌&&◌, cond, max, Option, IfSome}
use Rattle.est_kernel.specs.CodeViews.{code_of}
use Rattle.est_kernel.specs.Pauses.{pauses_of}
use Rattle.est_kernel.specs.Term.{Term}
use Rattle.est_kernel.specs.declared.pause_set.PauseSet.{PauseSet}
use Rattle.est_kernel.specs.PauseNumbers.{has_pause}
use Rattle.est_kernel.specs.View.{term_of}
use Rattle.est_meaning.specs.Signals.{Signals}
use Rattle.est_meaning.specs.States.{is_live, term_at, IsExclusive}
use Rattle.est_kernel.specs.declared.statement.Statement.{Statement}
use Rattle.est_meaning.specs.Environments.{Env}
use Rattle.est_meaning.specs.Rules.{HasNoRule}
use Rattle.est_meaning.specs.Steps.{StepsTo}
use Rattle.est_meaning.specs.Views.{set_of, env_of}
use Rattle.est_meaning.specs.declared.signal_set.Env.{Env as Known}
use Rattle.est_rounds.specs.declared.step.Step.{Step}
use Rattle.est_rounds.specs.declared.resume_step.Resumed.{Resumed}
use Rattle.est_rounds.specs.declared.resume_step.Resumed.TheVariants.{Asleep, Stuck, Moved}

-- s has no pause in the set, and none after the step
pub record Sleeps (s : Statement) (pauses next : ℕ → Bool) : Type 0 where
  pub asleep : is_live s pauses ≡ false
  pub still : is_live s next ≡ false

-- s has a pause in the set, and the rules give what is left of it no reaction
pub record CannotMove (s : Statement) (pauses : ℕ → Bool) (e : Env) : Type 0 where
  pub live : is_live s pauses ≡ true
  pub none : HasNoRule (term_at s pauses) e

-- s has a pause in the set, and what is left of it takes this step
pub record Moves (s : Statement) (pauses : ℕ → Bool) (e : Env) (step : Step) (next : ℕ → Bool) : Type 0 where
  pub live : is_live s pauses ≡ true
  pub steps : StepsTo s (term_at s pauses) e (set_of step.signals) (code_of step.completion) next

-- what s does from these pauses, and at which pauses it then stands
abbrev pub IsResumed : Resumed → Statement → (ℕ → Bool) → Env → (ℕ → Bool) → Type 0
IsResumed Asleep s pauses e next = Sleeps s pauses next
IsResumed Stuck s pauses e next = CannotMove s pauses e
IsResumed (Moved step) s pauses e next = Moves s pauses e step next

-- the same for sets of pauses and what is known
abbrev pub GoesOn : Resumed → Statement → PauseSet → Known → PauseSet → Type 0
GoesOn answer s pauses e next = IsResumed answer s (pauses_of pauses) (env_of e) (pauses_of next)

-- the signals that a step emits
abbrev pub emitted : Step → Signals
emitted step = set_of step.signals

-- the greater of the codes of two steps
abbrev pub greater_code : Step → Step → ℕ
greater_code left right = max (code_of left.completion) (code_of right.completion)

-- a term that stands for what is left of s takes this step, and then s stands at these pauses
abbrev pub IsStep : Step → Statement → Term → Known → PauseSet → Type 0
IsStep step s t e next = StepsTo s t (env_of e) (set_of step.signals) (code_of step.completion) (pauses_of next)

-- s takes this step as it begins
abbrev pub IsFirstStep : Step → Statement → Known → PauseSet → Type 0
IsFirstStep step s e next = IsStep step s (term_of s) e next

-- the answer, if there is one, is the step that s takes as it begins
abbrev pub IfBegun : Option Step → Statement → Known → PauseSet → Type 0
IfBegun answer s e next = IfSome answer (λ step. IsFirstStep step s e next)

-- the rules give the term no reaction
abbrev pub IsStuckBy : Known → Term → Type 0
IsStuckBy e t = HasNoRule t (env_of e)

-- none of the pauses of s is in the set
abbrev pub IsClear : Statement → PauseSet → Type 0
IsClear s set = is_live s (pauses_of set) ≡ false

-- none of the pauses of p and of q is in the set
abbrev pub AreClear : Statement → Statement → PauseSet → Type 0
AreClear p q set = (is_live p (pauses_of set) || is_live q (pauses_of set)) ≡ false

-- in each of the two, the pauses in the set can stand together
abbrev pub AreExclusive : Statement → Statement → PauseSet → Type 0
AreExclusive p q set = IsExclusive p (pauses_of set) × IsExclusive q (pauses_of set)

-- and at most one of the two has a pause in the set
abbrev pub TakeTurns : Statement → Statement → PauseSet → Type 0
TakeTurns p q set = IsExclusive p (pauses_of set) × IsExclusive q (pauses_of set)
    × ((is_live p (pauses_of set) && is_live q (pauses_of set)) ≡ false)

-- two sets have the same pauses
abbrev pub HaveSamePauses : PauseSet → PauseSet → Type 0
HaveSamePauses old new = (i : ℕ) → pauses_of new i ≡ pauses_of old i

-- no pause but these was put in or taken out
abbrev pub KeepsOthers : (ℕ → Bool) → PauseSet → PauseSet → Type 0
KeepsOthers own old new = (i : ℕ) → own i ≡ false → pauses_of new i ≡ pauses_of old i

-- no pause but those of p and q was put in or taken out
abbrev pub KeepsAllBut : Statement → Statement → PauseSet → PauseSet → Type 0
KeepsAllBut p q old new = (i : ℕ) → has_pause p i ≡ false → has_pause q i ≡ false → pauses_of new i ≡ pauses_of old i

-- the new set has those pauses of s that are in `given`; all others are as they were
abbrev pub TakesOver : Statement → PauseSet → PauseSet → PauseSet → Type 0
TakesOver s given old new = (i : ℕ) → pauses_of new i ≡ cond (has_pause s i) (pauses_of given i) (pauses_of old i)
