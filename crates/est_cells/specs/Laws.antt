-- The laws of the cells, as the functions of the module of laws promise them (this project's own form of the microstep
-- semantics in Berry, The Constructive Semantics of Pure Esterel).
use Rattle.std.specs.Prelude.{◌≡◌, ◌+◌, ℕ, Bool, true, List}
use Rattle.est_kernel.specs.declared.statement.Statement.{Statement}
use Rattle.est_kernel.specs.View.{term_of}
use Rattle.est_meaning.specs.declared.status.Status.{Status}
use Rattle.est_meaning.specs.Knowledge.{IsBelow, KnowsLess}
use Rattle.est_meaning.specs.States.{is_live, IsExclusive, term_at, IsState, state_term}
use Rattle.est_meaning.specs.Environments.{Env}
use Rattle.est_kernel.specs.declared.state.State.{State}
use Rattle.est_meaning.specs.Laws.{IsWithinPlaces}
use Rattle.est_meaning.specs.Rounds.{JudgedSignals, last_env}
use Rattle.est_kernel.specs.StartCodes.{IsLoopSafe}
use Rattle.est_kernel.specs.Term.{Term, outer}
use Rattle.est_meaning.specs.Reaction.{CannotReact}
use Rattle.est_cells.specs.Decided.{TableDecided, IsReactionOf}
use Rattle.est_meaning.specs.Rules.{Gives}
use Rattle.est_meaning.specs.Signals.{Signals}
use Rattle.est_meaning.specs.declared.status.Status.TheVariants.{Present, Absent}
use Rattle.est_kernel.specs.PauseNumbers.{HasDistinctPauses}
use Rattle.est_cells.specs.Next.{stays, NextAt}
use Rattle.est_kernel.specs.Scope.{IsClosed}
use Rattle.est_kernel.specs.declared.interface.Declaration.{Declaration}
use Rattle.est_cells.specs.Opening.{open_sheet}
use Rattle.est_kernel.specs.declared.statement.Statement.TheVariants.{Pause, Emit, Present', Seq', Loop', Par', Trap'}
use Rattle.est_kernel.specs.declared.statement.Statement.TheVariants.{Exit, Local' as Binder'}
use Rattle.est_kernel.specs.Pauses.{pauses_of}
use Rattle.est_kernel.specs.declared.pause_set.PauseSet.{PauseSet}
use Rattle.est_kernel.specs.declared.state.State.TheVariants.{Fresh, Paused}
use Rattle.est_cells.specs.Values.{idle, runs, continues, begun_by, resumed_by}
use Rattle.est_cells.specs.Whole.{Table, TableBelow, table_gates, table_meaning}
use Rattle.est_cells.specs.Tables.{Sheet, Below, sheet_size, emits, is_sure, is_possible}
use Rattle.est_cells.specs.Gates.{gates, live_gates}
use Rattle.est_cells.specs.Meaning.{begun, resumed, must_at, can_at}

-- what is emitted by the cells of the meaning is what Must and Can say
pub record EmitsAsMeant : Type 0 where
  pub sure_begun : (main : Bool) (s : Statement) (r : Status) (e : Env)
      → emits is_sure main s (begun main s r e) ≡ (must_at r (term_of s) e).signals
  pub may_begun : (main : Bool) (s : Statement) (r : Status) (e : Env)
      → emits is_possible main s (begun main s r e) ≡ (can_at r (term_of s) e).signals
  pub sure_resumed : (s : Statement) (bits : ℕ → Bool) (r : Status) (e : Env)
      → emits is_sure true s (resumed s bits r e) ≡ (must_at r (term_at s bits) e).signals
  pub may_resumed : (s : Statement) (bits : ℕ → Bool) (r : Status) (e : Env)
      → emits is_possible true s (resumed s bits r e) ≡ (can_at r (term_at s bits) e).signals

-- if the gates decide nothing more, every cell that the meaning decides is decided, with that value
pub record MeaningIsLeast : Type 0 where
  pub begun : (main : Bool) (s : Statement) (r g : Status) (e f : Env) (T : Sheet main s) → IsBelow r g → KnowsLess e f
      → Below main s (gates main s g f T) T → Below main s (begun main s r e) T
  pub resumed : (s : Statement) (bits : ℕ → Bool) (r g : Status) (e f : Env) (T : Sheet true s) → IsBelow r g
      → KnowsLess e f
      → Below true s (live_gates s bits g f T) T → Below true s (resumed s bits r e) T

-- if every decided cell agrees with the meaning, so does every cell that the gates decide from them
pub record GatesAreSound : Type 0 where
  pub begun : (main : Bool) (s : Statement) (r g : Status) (e f : Env) (T : Sheet main s) → IsBelow g r → KnowsLess f e
      → Below main s T (begun main s r e) → Below main s (gates main s g f T) (begun main s r e)
  pub resumed : (s : Statement) (bits : ℕ → Bool) (r g : Status) (e f : Env) (T : Sheet true s) → IsBelow g r
      → KnowsLess f e
      → Below true s T (resumed s bits r e) → Below true s (live_gates s bits g f T) (resumed s bits r e)

-- the meaning of a kernel's table is the least table in which the gates decide nothing more
pub record TableIsMeant : Type 0 where
  pub least : (j : JudgedSignals) (inputs : ℕ → Bool) (s : Statement) (x : State) (T : Table s)
      → TableBelow j s (table_gates j inputs s x T) T → TableBelow j s (table_meaning j inputs s x) T
  pub sound : (j : JudgedSignals) → IsWithinPlaces j → (inputs : ℕ → Bool) (s : Statement) (x : State) (T : Table s)
      → TableBelow j s T (table_meaning j inputs s x)
      → TableBelow j s (table_gates j inputs s x T) (table_meaning j inputs s x)

-- in a reaction the meaning of the cells is what its derivation says
pub record ValuesAreMeant : Type 0 where
  pub idle_begun : (main : Bool) (s : Statement) (e : Env) → begun main s Absent e ≡ idle main s
  pub begun_value : (main : Bool) (s : Statement) (e : Env) (o : Signals) (k : ℕ) (u : Term)
      (g : Gives (term_of s) e o k u)
      → begun main s Present e ≡ runs k (begun_by main s e o k u g)
  pub resumed_value : (s : Statement) (bits : ℕ → Bool) (e : Env) (o : Signals) (k : ℕ) (u : Term)
      (g : Gives (term_at s bits) e o k u) → resumed s bits Present e ≡ continues k (resumed_by s bits e o k u g)

-- Microsteps agree with Must and Can. Sound: if every cell is decided, and agrees with the meaning, the cells have the
-- values of the reaction. Complete: if nothing more can be decided and a cell is open, there is no reaction. Undecided:
-- if nothing more can be decided, and every decided cell agrees with the meaning, the judged signals are those of the
-- last round
pub record MicrostepsAgree : Type 0 where
  pub sound : (j : JudgedSignals) → IsWithinPlaces j → (inputs : ℕ → Bool) (s : Statement) → IsLoopSafe (term_of s)
      → (x : State) → IsState s x → (T : Table s) → TableBelow j s T (table_meaning j inputs s x) → TableDecided j s T
      → IsReactionOf j inputs s x T
  pub complete : (j : JudgedSignals) → IsWithinPlaces j → (inputs : ℕ → Bool) (s : Statement) (x : State) (T : Table s)
      → TableBelow j s (table_gates j inputs s x T) T → (TableDecided j s T → ⊥) → CannotReact j inputs (state_term s x)
  pub undecided : (j : JudgedSignals) → IsWithinPlaces j → (inputs : ℕ → Bool) (s : Statement) (x : State) (T : Table s)
      → TableBelow j s T (table_meaning j inputs s x) → TableBelow j s (table_gates j inputs s x T) T
      → (n : ℕ) → j.has n ≡ true → T.outputs n ≡ last_env j inputs (state_term s x) (outer n)

-- the pauses that are read off the cells of a reaction are those of the step
pub record PausesFollow : Type 0 where
  pub begun : (main : Bool) (s : Statement) → HasDistinctPauses s
      → (bits : ℕ → Bool) (e : Env) (o : Signals) (k : ℕ) (u : Term)
      → (g : Gives (term_of s) e o k u) → NextAt s (term_of s) e o k
      (stays main s bits (runs k (begun_by main s e o k u g)))
  pub resumed : (s : Statement) → HasDistinctPauses s → (bits : ℕ → Bool) → is_live s bits ≡ true → IsExclusive s bits
      → (e : Env) (o : Signals) (k : ℕ) (u : Term) (g : Gives (term_at s bits) e o k u)
      → NextAt s (term_at s bits) e o k (stays true s bits (continues k (resumed_by s bits e o k u g)))

-- the open table decides nothing that the meaning doesn't
pub record OpenTableIsBelow : Type 0 where
  pub begun : (main : Bool) (s : Statement) (r : Status) (e : Env) (i : List Declaration) (d n : ℕ)
      → IsClosed i d n (term_of s)
      → Below main s (open_sheet main s d) (begun main s r e)
  pub resumed : (s : Statement) (bits : ℕ → Bool) (r : Status) (e : Env) (i : List Declaration) (d n : ℕ)
      → IsClosed i d n (term_of s) → Below true s (open_sheet true s d) (resumed s bits r e)

-- how many cells three tables have: that of the opening script (and two outputs), of a loop around a local signal (and
-- two), and of a trap around two sides of a `||` (and three)
pub record CellsAreCounted : Type 0 where
  pub script : (a b c d : _) (i : _) (o p : _)
      → sheet_size true (Seq' a (Seq' b (Emit o) c (Pause i)) d (Emit p)) 0 + 2 ≡ 17
  pub loops : (a1 a2 a3 a4 a5 a6 a7 a8 : _) (i : _) (s : _) (t : _) (o p q : _)
      → sheet_size true
      (Loop' a1 (Binder' s a2 (Seq' a3 (Seq' a4 (Present' t a5 (Emit o) a6 (Emit p)) a7 (Pause i)) a8 (Emit q)))) 0 + 2
      ≡ 55
  pub exits : (a1 a2 a3 a4 a5 a6 a7 a8 a9 : _) (i : _) (k : _) (o p q : _)
      → sheet_size true
      (Seq' a1 (Trap' a2 (Par' a3 (Seq' a4 (Emit o) a5 (Exit k)) a6 (Seq' a7 (Pause i) a8 (Emit p)))) a9 (Emit q)) 0 + 3
      ≡ 40

-- the pauses read off a decided table are those of its reaction's step
pub record NextStateFollows : Type 0 where
  pub first : (j : JudgedSignals) (inputs : ℕ → Bool) (s : Statement) → HasDistinctPauses s
      → (bits : ℕ → Bool) (T : Table s)
      → (r : IsReactionOf j inputs s Fresh T)
      → NextAt s (term_of s) (last_env j inputs (term_of s)) r.signals r.code (stays true s bits T.sheet)
  pub next : (j : JudgedSignals) (inputs : ℕ → Bool) (s : Statement) → HasDistinctPauses s → (p : PauseSet)
      → is_live s (pauses_of p) ≡ true → IsExclusive s (pauses_of p)
      → (T : Table s) (r : IsReactionOf j inputs s (Paused p) T)
      → NextAt s (term_at s (pauses_of p)) (last_env j inputs (term_at s (pauses_of p))) r.signals r.code
      (stays true s (pauses_of p) T.sheet)
