-- A run of the engine: sweeps over the table of a kernel, each with what is known by the cells of the signals (this
-- project's own form).
use Rattle.std.specs.Prelude.{◌≡◌, ◌<◌, ◌⊎◌, ℕ, Bool, true, cond, List, length}
use Rattle.est_kernel.specs.Bits.{bits}
use Rattle.est_kernel.specs.Interfaces.{emittable}
use Rattle.est_kernel.specs.Pauses.{pauses_of}
use Rattle.est_kernel.specs.declared.interface.Declaration.{Declaration}
use Rattle.est_kernel.specs.declared.kernel.Kernel.{Kernel}
use Rattle.est_kernel.specs.declared.state.State.{State}
use Rattle.est_kernel.specs.declared.state.State.TheVariants.{Fresh, Done, Paused}
use Rattle.est_kernel.specs.declared.statement.Statement.{Statement}
use Rattle.est_meaning.specs.Rounds.{judged_signals}
use Rattle.est_meaning.specs.Environments.{Env, verdict}
use Rattle.est_meaning.specs.declared.status.Status.{Status}
use Rattle.est_meaning.specs.declared.status.Status.TheVariants.{Present, Absent}
use Rattle.est_meaning.specs.Views.{env_of}
use Rattle.est_meaning.specs.declared.signal_set.Env.{Env as Known}
use Rattle.est_cells.specs.Tables.{Sheet, emits, is_sure, is_possible}
use Rattle.est_cells.specs.Whole.{Table, TableBelow, table_gates, table_meaning}
use Rattle.est_net.specs.Cells.{cell_at, decided, learned}
use Rattle.est_net.specs.Layout.{cell_count, output_count, rank, sheet_in, table_in}
use Rattle.est_micro.specs.Parts.{IsClosedBut, known_but}
use Rattle.est_micro.specs.Sweeps.{swept, live_swept}
use Rattle.est_micro.specs.declared.direction.Direction.{Direction}
use Rattle.est_micro.specs.Inner.Views.{Changes, IsJudged, IsSwept}
use Rattle.est_micro.specs.declared.cells.Swept.{Swept}
use Rattle.est_micro.specs.declared.settling.RunEnd.{RunEnd}

-- the sheet of a kernel's statement after a sweep, by its state
abbrev pub sheet_swept : Direction → (s : Statement) → State → Env → Sheet true s → Sheet true s
sheet_swept d s Fresh e T = swept d true s e Present T
sheet_swept d s Done e T = swept d true s e Absent T
sheet_swept d s (Paused p) e T = live_swept d s (pauses_of p) Present e T

-- the statuses of the signals that may be emitted, by the cells
abbrev pub output_cells : List Declaration → List Status → ℕ → Status
output_cells i cells n = cell_at cells (rank i n)

-- what the cell of a signal that may be emitted is told: it is present where it was offered, and else by what is
-- emitted
abbrev pub output_gate : (ℕ → Bool) → (ℕ → Bool) → (ℕ → Bool) → ℕ → Status
output_gate inputs sure possible n = cond (inputs n) Present (verdict (sure n) (possible n))

-- the cells of the signals are told what is emitted, and this is then known where some inputs are not asked
pub record AreSignalsUpdated (i : List Declaration) (unasked inputs sure possible : ℕ → Bool) (old new : List Status)
    (e : Known) : Type 0 where
  pub changes : Changes 0 (output_count i) old new
  pub told : (n : ℕ) → n < length i → emittable i n ≡ true
      → output_cells i new n ≡ learned (output_cells i old n) (output_gate inputs sure possible n)
  pub knows : env_of e ≡ known_but unasked i inputs (output_cells i new)

-- one round: a sweep by what is known, and then the cells of the signals
pub record IsRound (d : Direction) (i : List Declaration) (unasked inputs : ℕ → Bool) (s : Statement) (x : State)
    (e f : Known) (old new : List Status)
    (r : Swept) : Type 0 where
  pub mid : List Status
  pub sweep : IsSwept true s (output_count i) 0 (sheet_swept d s x (env_of e)) old mid r
  pub updated : AreSignalsUpdated i unasked inputs (bits r.judged.must.signals.interface)
      (bits r.judged.can.signals.interface) mid new f

-- the table of a kernel's statement that a list of cells stands for
abbrev pub table_of : List Declaration → (s : Statement) → List Status → Table s
table_of i s cells = table_in i s (cell_at cells)

-- the cell of each signal that may be emitted and was offered is true
abbrev pub AreOfferedTrue : List Declaration → (ℕ → Bool) → List Status → Type 0
AreOfferedTrue i inputs cells = (n : ℕ) → n < length i → emittable i n ≡ true → inputs n ≡ true
    → output_cells i cells n ≡ Present

-- what holds before a round, where some inputs are not asked
pub record Ready (unasked : ℕ → Bool) (k : Kernel) (x : State) (inputs : ℕ → Bool) (cells : List Status)
    (env : Known) : Type 0 where
  pub size : length cells ≡ cell_count k
  pub sound : TableBelow (judged_signals k.interface inputs) k.root (table_of k.interface k.root cells)
      (table_meaning (judged_signals k.interface inputs) inputs k.root x)
  pub knows : env_of env ≡ known_but unasked k.interface inputs (output_cells k.interface cells)
  pub offered : AreOfferedTrue k.interface inputs cells

-- nothing more can be decided: each cell that is decided is as the meaning says, the gates decide nothing more, and
-- this is what the cells say
pub record IsSettled (k : Kernel) (x : State) (inputs : ℕ → Bool) (cells : List Status) (r : Swept) : Type 0 where
  pub size : length cells ≡ cell_count k
  pub sound : let j = judged_signals k.interface inputs in
      TableBelow j k.root (table_of k.interface k.root cells) (table_meaning j inputs k.root x)
  pub closed : let j = judged_signals k.interface inputs in
      TableBelow j k.root (table_gates j inputs k.root x (table_of k.interface k.root cells))
      (table_of k.interface k.root cells)
  pub found : let T = sheet_in (cell_at cells) true k.root (output_count k.interface) 0 in
      IsJudged T.cells.must T.cells.may (emits is_sure true k.root T) (emits is_possible true k.root T) r.judged
  pub offered : AreOfferedTrue k.interface inputs cells

-- the same where some inputs are not asked: no cell is open, or the gates decide nothing more by what is known
pub record IsSettledBut (unasked : ℕ → Bool) (k : Kernel) (x : State) (inputs : ℕ → Bool) (cells : List Status)
    (r : RunEnd) : Type 0 where
  pub size : length cells ≡ cell_count k
  pub sound : let j = judged_signals k.interface inputs in
      TableBelow j k.root (table_of k.interface k.root cells) (table_meaning j inputs k.root x)
  pub closed : (decided cells ≡ length cells)
      ⊎ IsClosedBut unasked k.interface inputs k.root x (table_of k.interface k.root cells)
  pub found : let T = sheet_in (cell_at cells) true k.root (output_count k.interface) 0 in
      IsJudged T.cells.must T.cells.may (emits is_sure true k.root T) (emits is_possible true k.root T) r.swept.judged
  pub knows : env_of r.env ≡ known_but unasked k.interface inputs (output_cells k.interface cells)
  pub offered : AreOfferedTrue k.interface inputs cells
