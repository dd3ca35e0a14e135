-- What a pass over some of the cells of a statement keeps, whichever it visits (this project's own
-- form).
use Rattle.std.specs.Prelude.{◌≡◌, ◌+◌, ℕ, Bool, true, false, List}
use Rattle.est_kernel.specs.Pauses.{pauses_of}
use Rattle.est_kernel.specs.Term.{outer}
use Rattle.est_kernel.specs.declared.interface.Declaration.{Declaration}
use Rattle.est_kernel.specs.declared.state.State.{State}
use Rattle.est_kernel.specs.declared.state.State.TheVariants.{Fresh, Done, Paused}
use Rattle.est_kernel.specs.declared.statement.Statement.{Statement}
use Rattle.est_meaning.specs.Environments.{Env}
use Rattle.est_meaning.specs.Knowledge.{IsBelow, KnowsLess}
use Rattle.est_meaning.specs.States.{is_live, term_at}
use Rattle.est_meaning.specs.declared.status.Status.{Status}
use Rattle.est_meaning.specs.declared.status.Status.TheVariants.{Present, Absent}
use Rattle.est_meaning.specs.Views.{env_of}
use Rattle.est_meaning.specs.declared.signal_set.Env.{Env as Known}
use Rattle.est_cells.specs.Gates.{ends}
use Rattle.est_cells.specs.Meaning.{begun, cells_at, resumed}
use Rattle.est_cells.specs.Tables.{Below, Sheet, emits, is_possible, is_sure, sheet_size}
use Rattle.est_net.specs.Cells.{cell_at}
use Rattle.est_net.specs.Layout.{output_count, sheet_in}
use Rattle.est_micro.specs.Inner.Hearing.{Heard}
use Rattle.est_micro.specs.Runs.{AreSignalsUpdated}
use Rattle.est_micro.specs.Inner.Views.{Changes}

-- only cells of the statement have changed, and where they were as one of these sheets decides them, they are so
pub record Keeps (main : Bool) (s : Statement) (c t : ℕ) (Meant : Sheet main s → Type 0) (old new : List Status)
    : Type 0 where
  pub changes : Changes c (c + sheet_size main s t) old new
  pub sound : (M : Sheet main s) → Meant M → Below main s (sheet_in (cell_at old) main s c t) M
      → Below main s (sheet_in (cell_at new) main s c t) M

-- the sheet of a statement that is begun, if at all, as r tells; the gate g and what is known, l, may fall short of r
-- and of what is then known
pub record IsMeantBegun (main : Bool) (s : Statement) (g : Status) (l : Env) (M : Sheet main s) : Type 0 where
  pub reach : Status
  pub env : Env
  pub is : M ≡ begun main s reach env
  pub below : IsBelow g reach
  pub less : KnowsLess l env
  pub heard : Heard (emits is_sure main s (begun main s reach env)) env l

-- the same of a statement that goes on from its pauses, if it is run, as r tells
pub record IsMeantResumed (s : Statement) (bits : ℕ → Bool) (g : Status) (l : Env) (M : Sheet true s) : Type 0 where
  pub reach : Status
  pub env : Env
  pub is : M ≡ resumed s bits reach env
  pub below : IsBelow g reach
  pub less : KnowsLess l env
  pub heard : Heard (emits is_sure true s (resumed s bits reach env)) env l

-- a pass over the cells of a statement that is begun, if at all, by the gate g, with what is known, l
abbrev pub Passes : (main : Bool) (s : Statement) (c t : ℕ) (g : Status) (l : Env) (old new : List Status) → Type 0
Passes main s c t g l old new = Keeps main s c t (IsMeantBegun main s g l) old new

-- a pass over those of a statement that goes on from its pauses, if it is run, by g
abbrev pub PassesOn : (s : Statement) (bits : ℕ → Bool) (c t : ℕ) (g : Status) (l : Env) (old new : List Status)
    → Type 0
PassesOn s bits c t g l old new = Keeps true s c t (IsMeantResumed s bits g l) old new

-- a pass over those of a side of a `||`, if it goes on
pub record SidePasses (s : Statement) (bits : ℕ → Bool) (c t : ℕ) (g : Status) (l : Env) (old new : List Status)
    : Type 0 where
  pub on : is_live s bits ≡ true → PassesOn s bits c t g l old new
  pub off : is_live s bits ≡ false → new ≡ old

-- what is known of whether a statement ends that goes on from its pauses: this, where no more of its cells is decided
-- than is meant
pub record EndsBy (s : Statement) (bits : ℕ → Bool) (c t : ℕ) (cells : List Status) (known : Status) : Type 0 where
  pub says : (r : Status) (e : Env) → Below true s (sheet_in (cell_at cells) true s c t) (resumed s bits r e)
      → IsBelow known (ends (cells_at Absent r (term_at s bits) e))

-- a pass over the cells of a kernel's statement from place c on, by its state
abbrev pub SheetPasses : (s : Statement) → State → (c : ℕ) → Env → (old new : List Status) → Type 0
SheetPasses s Fresh c l old new = Passes true s c 0 Present l old new
SheetPasses s Done c l old new = Passes true s c 0 Absent l old new
SheetPasses s (Paused p) c l old new = PassesOn s (pauses_of p) c 0 Present l old new

-- a pass by what is known, and then the cells of the signals are told what is emitted
pub record IsPassRound (i : List Declaration) (unasked inputs : ℕ → Bool) (s : Statement) (x : State) (e f : Known)
    (old new : List Status) : Type 0 where
  pub mid : List Status
  pub sure : ℕ → Bool
  pub possible : ℕ → Bool
  pub pass : SheetPasses s x (output_count i) (env_of e) old mid
  pub sure_is : (n : ℕ) → sure n ≡ emits is_sure true s (sheet_in (cell_at mid) true s (output_count i) 0) (outer n)
  pub possible_is : (n : ℕ) → possible n
      ≡ emits is_possible true s (sheet_in (cell_at mid) true s (output_count i) 0) (outer n)
  pub updated : AreSignalsUpdated i unasked inputs sure possible mid new f
