-- What is judged of a statement that goes on from its pauses (this project's own form).
use Rattle.std.specs.Prelude.{◌≡◌, ℕ, Bool, true, false, Option, Some, None}
use Rattle.est_kernel.specs.CodeViews.{codes_of}
use Rattle.est_kernel.specs.Term.{Term}
use Rattle.est_kernel.specs.View.{term_of}
use Rattle.est_meaning.specs.MustCan as meaning
use Rattle.est_meaning.specs.MustCan.{must, can, sure, maybe, next_mode, must_then, can_then}
use Rattle.est_meaning.specs.States.{is_live, term_at}
use Rattle.est_meaning.specs.Environments.{Env}
use Rattle.est_meaning.specs.Views.{env_of}
use Rattle.est_meaning.specs.declared.signal_set.Env.{Env as Known}
use Rattle.est_kernel.specs.Pauses.{pauses_of}
use Rattle.est_kernel.specs.declared.pause_set.PauseSet.{PauseSet}
use Rattle.est_kernel.specs.declared.statement.Statement.{Statement}
use Rattle.est_rounds.specs.Views.{acts_of}
use Rattle.est_rounds.specs.declared.acts.Acts.{Acts}
use Rattle.est_rounds.specs.declared.acts.MustCan.{MustCan}

-- s has a pause in the set, and what is left of it can do these acts, in doubt whether it is reached
pub record CanDo (s : Statement) (pauses : ℕ → Bool) (e : Env) (acts : Acts) : Type 0 where
  pub live : is_live s pauses ≡ true
  pub can_is : acts_of acts ≡ can (term_at s pauses) maybe e

-- the answer for s in doubt: its acts, or none where it has no pause in the set
abbrev pub IsJudgedInDoubt : Option Acts → Statement → (ℕ → Bool) → Env → Type 0
IsJudgedInDoubt (Some acts) s pauses e = CanDo s pauses e acts
IsJudgedInDoubt None s pauses e = is_live s pauses ≡ false

-- s has a pause in the set, and what is left of it is judged so
pub record MustAndCanDo (s : Statement) (pauses : ℕ → Bool) (e : Env) (judged : MustCan) : Type 0 where
  pub live : is_live s pauses ≡ true
  pub must_is : acts_of judged.must ≡ must (term_at s pauses) e
  pub can_is : acts_of judged.can ≡ can (term_at s pauses) sure e

-- the answer for s: what it is judged to do, or none where it has no pause in the set
abbrev pub IsJudged : Option MustCan → Statement → (ℕ → Bool) → Env → Type 0
IsJudged (Some judged) s pauses e = MustAndCanDo s pauses e judged
IsJudged None s pauses e = is_live s pauses ≡ false

-- the same for a set of pauses and what is known: in doubt, and surely
abbrev pub JudgesInDoubt : Option Acts → Statement → PauseSet → Known → Type 0
JudgesInDoubt answer s pauses e = IsJudgedInDoubt answer s (pauses_of pauses) (env_of e)

abbrev pub Judges : Option MustCan → Statement → PauseSet → Known → Type 0
Judges answer s pauses e = IsJudged answer s (pauses_of pauses) (env_of e)

-- what a term must do, what it can do, and what it can do in doubt whether it is reached, as far as is known
abbrev pub must_by : Known → Term → meaning.Acts
must_by e t = must t (env_of e)

abbrev pub can_by : Known → Term → meaning.Acts
can_by e t = can t sure (env_of e)

abbrev pub may_by : Known → Term → meaning.Acts
may_by e t = can t maybe (env_of e)

-- what a first part and the statement after it must do and can do, from what is judged of the first part
abbrev pub must_follow : MustCan → Statement → Known → meaning.Acts
must_follow first q e = must_then (acts_of first.must) (must (term_of q) (env_of e))

abbrev pub can_follow : MustCan → Statement → Known → meaning.Acts
can_follow first q e =
    can_then (acts_of first.can) (can (term_of q) (next_mode sure (codes_of first.must.codes 0)) (env_of e))
