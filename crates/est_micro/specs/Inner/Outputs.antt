-- The cells of the signals that may be emitted, by the mask of these signals (this project's own
-- form).
use Rattle.std.specs.Prelude.{◌≡◌, ◌<◌, ◌+◌, ℕ, Bool, true, false, cond, List}
use Rattle.est_kernel.specs.Bits.{bits}
use Rattle.est_meaning.specs.Rounds.{how_many}
use Rattle.est_meaning.specs.declared.status.Status.{Status}
use Rattle.est_net.specs.Cells.{cell_at, learned, Learns}
use Rattle.est_rounds.specs.declared.acts.MustCan.{MustCan}
use Rattle.est_micro.specs.Runs.{output_gate}
use Rattle.est_micro.specs.Inner.Views.{Changes}

-- what the cell of a signal is told
abbrev pub told_of : ℕ → MustCan → ℕ → Status
told_of inputs j n = output_gate (bits inputs) (bits j.must.signals.interface) (bits j.can.signals.interface) n

-- a signal's cell is told, if it has one
pub record IsToldOne (has_one : Bool) (now : Status) (cell : ℕ) (old new : List Status) (next : ℕ) : Type 0 where
  pub next_is : next ≡ cell + cond has_one 1 0
  pub told : has_one ≡ true → Learns cell now old new
  pub kept : has_one ≡ false → new ≡ old

-- the cells of the first m signals are told
pub record AreSignalsTold (f : ℕ → Bool) (m : ℕ) (gate : ℕ → Status) (old new : List Status) : Type 0 where
  pub changes : Changes 0 (how_many f m) old new
  pub told : (n : ℕ) → n < m → f n ≡ true
      → cell_at new (how_many f n) ≡ learned (cell_at old (how_many f n)) (gate n)
