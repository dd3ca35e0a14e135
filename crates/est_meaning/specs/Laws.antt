-- The laws of the meaning, as the functions of the module of laws promise them (after Berry, The Constructive Semantics
-- of Pure Esterel; the rounds and the states of fixed size are this project's own form).
use Rattle.std.specs.Prelude.{◌≡◌, ◌≢◌, ◌≤◌, ◌<◌, ◌^◌, ◌↔◌, ℕ, suc, Bool, true, false, ◌||◌, List, length, All}
use Rattle.est_kernel.specs.Codes.{code}
use Rattle.est_kernel.specs.Interfaces.{emittable}
use Rattle.est_kernel.specs.StartCodes.{IsLoopSafe}
use Rattle.est_kernel.specs.Term.{outer, inner, Term, signal}
use Rattle.est_kernel.specs.PauseNumbers.{HasDistinctPauses}
use Rattle.est_kernel.specs.View.{term_of}
use Rattle.est_kernel.specs.declared.interface.Declaration.{Declaration}
use Rattle.est_kernel.specs.declared.pause_set.PauseSet.{PauseSet}
use Rattle.est_kernel.specs.declared.state.State.{State}
use Rattle.est_kernel.specs.declared.state.State.TheVariants.{Fresh, Done, Paused}
use Rattle.est_kernel.specs.declared.statement.Statement.{Statement}
use Rattle.est_meaning.specs.Knowledge.{KnowsLess, IsWithin}
use Rattle.est_meaning.specs.MustCan.{Acts, Mode, sure, maybe, must, can, env_within}
use Rattle.est_meaning.specs.Reaction.{Reacts}
use Rattle.est_meaning.specs.Rounds.{JudgedSignals, judged_signals, first_env, env_after, how_many, last_env}
use Rattle.est_meaning.specs.Rules.{Gives, HasNoRule}
use Rattle.est_meaning.specs.Signals.{Signals, without}
use Rattle.est_meaning.specs.States.{IsState, state_term}
use Rattle.est_meaning.specs.Environments.{Env}
use Rattle.est_meaning.specs.declared.status.Status.{Status}
use Rattle.est_meaning.specs.declared.status.Status.TheVariants.{Present, Absent, Unknown}

-- these signals and this code alone
abbrev pub just : Signals → ℕ → Acts
just o k = record { signals = o; codes = code k }

-- the rules react with code k
pub record HasRule (t : Term) (e : Env) (k : ℕ) : Type 0 where
  pub signals : Signals
  pub rest : Term
  pub gives : Gives t e signals k rest

-- no code is among the acts
abbrev pub HasNoCode : Acts → Type 0
HasNoCode a = (k : ℕ) → a.codes k ≡ false

-- Decided by Must. Why care: whether an instant is Stuck, and what it shows, depends on nothing but what must be
-- emitted. No guess is ever tried, and a Stuck instant is one in which the program itself leaves something open. In
-- every environment, for a term whose loops' bodies take time: the rules react with a code exactly when Must has that
-- code, and they give nothing exactly when Must has none. Where they react, Must is that reaction and nothing else, and
-- so is Can
pub record DecidedByMust : Type 0 where
  pub reacts : (t : Term) (e : Env) → IsLoopSafe t → (k : ℕ)
      → HasRule t e k ↔ ((must t e).codes k ≡ true)
  pub none : (t : Term) (e : Env) → IsLoopSafe t → HasNoRule t e ↔ HasNoCode (must t e)
  pub must_is : (t : Term) (e : Env) (o : Signals) (k : ℕ) (u : Term)
      → Gives t e o k u → must t e ≡ just o k
  pub can_is : (t : Term) (e : Env) (o : Signals) (k : ℕ) (u : Term)
      → Gives t e o k u → can t sure e ≡ just o k

-- two steps are the same
pub record IsSame (o : Signals) (k : ℕ) (u : Term) (o' : Signals) (k' : ℕ) (u' : Term) : Type 0 where
  pub signals : o ≡ o'
  pub code : k ≡ k'
  pub rest : u ≡ u'

-- two reactions show the same outputs and go on as the same term
pub record IsSameReaction (outputs : ℕ → Bool) (u : Term) (outputs' : ℕ → Bool) (u' : Term) : Type 0 where
  pub shown : outputs ≡ outputs'
  pub next : u ≡ u'

-- One reaction at most. Why care: the same program with the same inputs shows the same outputs, in this instant and in
-- all that follow, whichever engine runs it. In one environment a term reacts with one set of signals, one code and one
-- next term at most. So it has one reaction at most to the inputs of an instant. The loops of the next term take time
-- again, so that the laws which ask for that hold from instant to instant
pub record OneReactionAtMost : Type 0 where
  pub same : (t : Term) (e : Env)
      (o : Signals) (k : ℕ) (u : Term) (o' : Signals) (k' : ℕ) (u' : Term)
      → Gives t e o k u → Gives t e o' k' u' → IsSame o k u o' k' u'
  pub same_reaction : (j : JudgedSignals) (inputs : ℕ → Bool) (t : Term)
      (outputs : ℕ → Bool) (u : Term) (outputs' : ℕ → Bool) (u' : Term)
      → Reacts j inputs t outputs u → Reacts j inputs t outputs' u'
      → IsSameReaction outputs u outputs' u'
  pub safe_again : (t : Term) (e : Env) (o : Signals) (k : ℕ) (u : Term)
      → IsLoopSafe t → Gives t e o k u → IsLoopSafe u

-- Knowledge is monotone. Why care: what an engine has found out stays true, in whatever order it looks, and nothing
-- that it shows has to be taken back. With more known, more must be done and less can be done, surely reached or in
-- doubt. What must be done can be done. What can be done where a term is surely reached can be done where that is in
-- doubt
pub record KnowledgeIsMonotone : Type 0 where
  pub must_grows : (t : Term) (e f : Env) → KnowsLess e f → IsWithin (must t e) (must t f)
  pub can_shrinks : (t : Term) (m : Mode) (e f : Env)
      → KnowsLess e f → IsWithin (can t m f) (can t m e)
  pub must_in_can : (t : Term) (e : Env) → IsWithin (must t e) (can t sure e)
  pub sure_in_maybe : (t : Term) (e : Env) → IsWithin (can t sure e) (can t maybe e)

-- the judged signals have places of the interface
abbrev pub IsWithinPlaces : JudgedSignals → Type 0
IsWithinPlaces j = (n : ℕ) → j.has n ≡ true → n < j.places

-- the environment after n rounds from the first one
abbrev pub known_after : ℕ → JudgedSignals → (ℕ → Bool) → Term → Env
known_after n j inputs t = env_after n j t (first_env j inputs)

-- Rounds come to rest. Why care: an instant takes a bounded number of rounds, and an output that is called undecided is
-- one that no further look at the program would decide. From the first environment on, no round takes back what was
-- decided. After as many rounds as there are judged signals, nothing changes. The judged signals of an interface have
-- places in it, which is what the other parts ask for
pub record RoundsComeToRest : Type 0 where
  pub learns : (j : JudgedSignals) (inputs : ℕ → Bool) (t : Term) (n : ℕ)
      → KnowsLess (known_after n j inputs t) (known_after (suc n) j inputs t)
  pub settles : (j : JudgedSignals) → IsWithinPlaces j → (inputs : ℕ → Bool) (t : Term) (m : ℕ)
      → how_many j.has j.places ≤ m → known_after m j inputs t ≡ last_env j inputs t
  pub judged : (interface : List Declaration) (inputs : ℕ → Bool) → IsWithinPlaces (judged_signals interface inputs)

-- a status says whether a signal is there: it is decided, present exactly when the signal is there, absent exactly when
-- not
pub record IsDecidedAs (v : Status) (is_there : Bool) : Type 0 where
  pub decided : v ≢ Unknown
  pub present : (v ≡ Present) ↔ (is_there ≡ true)
  pub absent : (v ≡ Absent) ↔ (is_there ≡ false)

-- that `signal s in p` emits o and gives code k is a reaction of its body p, in the environment in which s has its own
-- status; and there s is present exactly when this reaction of the body emits it
pub record IsDecidedWithin (s : ℕ) (p : Term) (e : Env) (o : Signals) (k : ℕ) : Type 0 where
  pub emitted : Signals
  pub left : Term
  pub gives : Gives p (env_within sure s p e) emitted k left
  pub seen_outside : o ≡ without s emitted
  pub status : IsDecidedAs (env_within sure s p e (inner s)) (emitted (inner s))

-- Emitted is present. Why care: what a program finds out about a signal is what happens in that very instant. No test
-- is ever answered by a presence that nothing brings about, nor by an absence that something contradicts. Where a term
-- reacts to the inputs of an instant, each judged signal is decided in the last environment: present exactly when the
-- reaction emits it, absent exactly when not, whatever was offered. A signal that is not judged (an input, or an
-- inputoutput that was offered) is present exactly when it was offered, whether the term reacts or not. And wherever
-- the rules give `signal s in p` a reaction, s is decided in the environment of p: present exactly when the reaction of
-- p emits it
pub record EmittedIsPresent : Type 0 where
  pub judged : (j : JudgedSignals) → IsWithinPlaces j
      → (inputs : ℕ → Bool) (t : Term) (outputs : ℕ → Bool) (u : Term)
      → Reacts j inputs t outputs u → (n : ℕ) → j.has n ≡ true
      → IsDecidedAs (last_env j inputs t (outer n)) (outputs n)
  pub offered : (j : JudgedSignals) (inputs : ℕ → Bool) (t : Term) (n : ℕ)
      → j.has n ≡ false → IsDecidedAs (last_env j inputs t (outer n)) (inputs n)
  pub either : (interface : List Declaration) (inputs : ℕ → Bool) (t : Term) (outputs : ℕ → Bool) (u : Term)
      → Reacts (judged_signals interface inputs) inputs t outputs u → (n : ℕ) → emittable interface n ≡ true
      → IsDecidedAs (last_env (judged_signals interface inputs) inputs t (outer n)) (inputs n || outputs n)
  pub within : (s : ℕ) (p : Term) (e : Env) (o : Signals) (k : ℕ) (u : Term)
      → Gives (signal s p) e o k u → IsDecidedWithin s p e o k

-- the state x of s stands for t
pub record IsStateFor (s : Statement) (x : State) (t : Term) : Type 0 where
  pub is_state : IsState s x
  pub term : state_term s x ≡ t

-- a set of pauses as the program has it: 32 words of 64 bits, one bit for each pause that a kernel may have
pub record IsWordSet (pauses : PauseSet) : Type 0 where
  pub words : length pauses.words ≡ 32
  pub width : All (λ w. w < 2 ^ 64) pauses.words

-- the program can hold this state
abbrev pub CanBeHeld : State → Type 0
CanBeHeld Fresh = Unit {0}
CanBeHeld Done = Unit {0}
CanBeHeld (Paused pauses) = IsWordSet pauses

-- some state of s that the program can hold stands for t
pub record SomeStateFor (s : Statement) (t : Term) : Type 0 where
  pub state : State
  pub can_be_held : CanBeHeld state
  pub stands : IsStateFor s state t

-- Pauses are enough. Why care: what a running module has left to do is kept in one bit for each of its pauses, however
-- long it runs, so a slot never grows and a step asks for no memory. Where no two pauses of a statement have one
-- number: wherever the term of a state reacts, in whatever environment and with whatever code, some state stands for
-- what is left, and the program can hold it. In a state loops' bodies still take time
pub record PausesAreEnough : Type 0 where
  pub goes_on : (s : Statement) → HasDistinctPauses s → (x : State) (t : Term) → IsStateFor s x t
      → (e : Env) (o : Signals) (k : ℕ) (u : Term) → Gives t e o k u → SomeStateFor s u
  pub safe : (s : Statement) → IsLoopSafe (term_of s) → (x : State) (t : Term)
      → IsStateFor s x t → IsLoopSafe t
