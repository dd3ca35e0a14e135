-- What a sweep through the list of cells finds and does (this project's own form).
use Rattle.std.specs.Prelude.{◌≡◌, ◌<◌, ◌≤◌, ℕ, ◌+◌, Bool, true, cond, List, length}
use Rattle.est_kernel.specs.Codes.{Codes}
use Rattle.est_kernel.specs.CodeViews.{codes_of}
use Rattle.est_kernel.specs.Pauses.{pauses_of}
use Rattle.est_kernel.specs.declared.pause_set.PauseSet.{PauseSet}
use Rattle.est_kernel.specs.declared.statement.Statement.{Statement}
use Rattle.est_meaning.specs.Signals.{Signals, union}
use Rattle.est_meaning.specs.declared.status.Status.{Status}
use Rattle.est_meaning.specs.declared.status.Status.TheVariants.{Absent}
use Rattle.est_meaning.specs.Views.{set_of, env_of}
use Rattle.est_meaning.specs.declared.signal_set.Env.{Env as Known}
use Rattle.est_meaning.specs.declared.signal_set.SignalSet.{SignalSet}
use Rattle.est_cells.specs.Gates.{gates, live_gates}
use Rattle.est_cells.specs.Tables.{Cells, Parts, Sheet, sheet_size, emits, is_sure, is_possible}
use Rattle.est_net.specs.Cells.{AllDecided, AllOpen, NoneTrue, cell_at, decided, learned}
use Rattle.est_net.specs.Layout.{sure_codes, possible_codes, sheet_in}
use Rattle.est_rounds.specs.declared.acts.MustCan.{MustCan}
use Rattle.est_micro.specs.Sweeps.{entered, left, sure_told, may_told, swept_parts, swept, live_swept_parts, live_swept}
use Rattle.est_micro.specs.declared.cells.StatementPlace.{StatementPlace}
use Rattle.est_micro.specs.declared.cells.Swept.{Swept}

-- only cells from place lo on and before place hi have changed, and none where no more are decided
pub record Changes (lo hi : ℕ) (old new : List Status) : Type 0 where
  pub before : (i : ℕ) → i < lo → cell_at new i ≡ cell_at old i
  pub after : (i : ℕ) → hi ≤ i → cell_at new i ≡ cell_at old i
  pub size : length new ≡ length old
  pub more : decided old ≤ decided new
  pub quiet : decided new ≡ decided old → new ≡ old

-- in the first sweep of an instant (first is true) each cell from place lo on and before place hi is open
unfoldable pub IsFresh : (first : Bool) (lo hi : ℕ) → List Status → Type 0
IsFresh first lo hi cells = first ≡ true → AllOpen lo hi cells

-- what is surely given and emitted, and what is possibly
pub record IsJudged (sure may : Codes) (emitted possible : Signals) (j : MustCan) : Type 0 where
  pub must : codes_of j.must.codes ≡ sure
  pub can : codes_of j.can.codes ≡ may
  pub emits : set_of j.must.signals ≡ emitted
  pub may_emit : set_of j.can.signals ≡ possible

-- n code cells from place c on are told what is judged
pub record AreTold (c n : ℕ) (j : MustCan) (old new : List Status) : Type 0 where
  pub changes : Changes c (c + n) old new
  pub sure : sure_codes (cell_at new) c n ≡ sure_told (sure_codes (cell_at old) c n) (possible_codes (cell_at old) c n)
      (codes_of j.must.codes) (codes_of j.can.codes)
  pub may : possible_codes (cell_at new) c n ≡ may_told (sure_codes (cell_at old) c n)
      (possible_codes (cell_at old) c n)
      (codes_of j.must.codes) (codes_of j.can.codes)

-- the code cells of a statement whose cells begin at place c are told what is judged, and read
pub record IsFinished (c traps : ℕ) (own : MustCan) (past : ℕ) (old new : List Status) (r : Swept) : Type 0 where
  pub told : AreTold (c + 1) (traps + 2) own old new
  pub found : IsJudged (sure_codes (cell_at new) (c + 1) (traps + 2)) (possible_codes (cell_at new) (c + 1) (traps + 2))
      (set_of own.must.signals) (set_of own.can.signals) r.judged
  pub past_is : r.past ≡ past

-- what is judged of two parts: the codes by f, and the signals of both
abbrev pub IsPaired : (Codes → Codes → Codes) → MustCan → MustCan → MustCan → Type 0
IsPaired f x y j =
    IsJudged (f (codes_of x.must.codes) (codes_of y.must.codes)) (f (codes_of x.can.codes) (codes_of y.can.codes))
    (union (set_of x.must.signals) (set_of y.must.signals)) (union (set_of x.can.signals) (set_of y.can.signals)) j

-- the sheet of a statement from a place on is F of what it was, and this is what its cells say
pub record IsSwept (main : Bool) (s : Statement) (c traps : ℕ) (F : Sheet main s → Sheet main s) (old new : List Status)
    (r : Swept)
    : Type 0 where
  pub sheet : sheet_in (cell_at new) main s c traps ≡ F (sheet_in (cell_at old) main s c traps)
  pub changes : Changes c (c + sheet_size main s traps) old new
  pub found : let T = sheet_in (cell_at new) main s c traps in
      IsJudged T.cells.must T.cells.may (emits is_sure main s T) (emits is_possible main s T) r.judged
  pub past : r.past ≡ c + sheet_size main s traps

-- a sweep of a node: P sweeps the parts, by what is in the go cell, and G has the gates
abbrev pub node_swept : (main : Bool) (s : Statement) → (Status → Parts main s → Parts main s) → (Sheet main s → Cells)
    → Status
    → Sheet main s → Sheet main s
node_swept main s P G gate T =
    let h = learned T.cells.go gate in
    let U = entered h T (P h T.parts) in
    left U (G U)

-- the cells of a statement that is begun, if at all, by the gate are swept
unfoldable pub IsBegun : Statement → StatementPlace → Status → Known → List Status → List Status → Swept → Type 0
IsBegun s at gate e old new r =
    IsSwept at.main s at.cell at.traps
    (node_swept at.main s (swept_parts at.direction at.main s (env_of e))
    (λ U. (gates at.main s gate (env_of e) U).cells) gate) old new r

-- the cells of a statement that goes on, if it is run, are swept
unfoldable pub IsResumed : Statement → StatementPlace → PauseSet → Status → Known → List Status → List Status → Swept
    → Type 0
IsResumed s at pauses run e old new r =
    IsSwept true s at.cell at.traps
    (node_swept true s (live_swept_parts at.direction s (pauses_of pauses) run (env_of e))
    (λ U. (live_gates s (pauses_of pauses) run (env_of e) U).cells)
    Absent) old new r

-- the cells of a part are swept: if it is on (one of its pauses is set), it goes on where it is run; else the gate
-- tells whether it is begun
abbrev pub IsChosen : Statement → StatementPlace → PauseSet → Bool → Status → Status → Known → List Status → List Status
    → Swept
    → Type 0
IsChosen p at pauses is_on gate run e old new r =
    IsSwept true p at.cell at.traps
    (λ T. cond is_on (live_swept at.direction p (pauses_of pauses) run (env_of e) T)
    (swept at.direction true p (env_of e) gate T)) old new r

-- a statement is not begun, by its go cell and the gate, none of its cells is true, and this is the first place after
-- them
pub record IsIdle (s : Statement) (at : StatementPlace) (gate : Status) (cells : List Status) (past : ℕ) : Type 0 where
  pub off : learned (cell_at cells at.cell) gate ≡ Absent
  pub none : NoneTrue at.cell past cells
  pub past_is : past ≡ at.cell + sheet_size at.main s at.traps

-- the signals that the cells of a statement say are surely emitted are put into a set; its cells begin at place c
pub record AddsEmitted (main : Bool) (s : Statement) (c traps : ℕ) (cells : List Status) (old new : SignalSet)
    (past : ℕ) : Type 0 where
  pub adds : set_of new ≡ union (set_of old) (emits is_sure main s (sheet_in (cell_at cells) main s c traps))
  pub past_is : past ≡ c + sheet_size main s traps

-- so are those of two parts, the second after the first
pub record AddsBoth (main : Bool) (p q : Statement) (c traps : ℕ) (cells : List Status) (old new : SignalSet)
    (past : ℕ) : Type 0 where
  pub adds : set_of new ≡ union (set_of old) (union (emits is_sure main p (sheet_in (cell_at cells) main p c traps))
      (emits is_sure main q (sheet_in (cell_at cells) main q (c + sheet_size main p traps) traps)))
  pub past_is : past ≡ c + sheet_size main p traps + sheet_size main q traps

-- all cells of a statement are decided, and this is what they say
pub record IsRead (s : Statement) (at : StatementPlace) (cells : List Status) (r : Swept) : Type 0 where
  pub decided : AllDecided at.cell (at.cell + sheet_size at.main s at.traps) cells
  pub found : let T = sheet_in (cell_at cells) at.main s at.cell at.traps in
      IsJudged T.cells.must T.cells.may (emits is_sure at.main s T) (emits is_possible at.main s T) r.judged
  pub past : r.past ≡ at.cell + sheet_size at.main s at.traps
