-- What is tied to the signals that are not decided (this project's own form).
use Rattle.std.specs.Prelude.{◌++◌, ℕ, zero, suc, true, cond, List, [], length}
use Rattle.est_kernel.specs.Bits.{bits}
use Rattle.est_kernel.specs.Term.{outer}
use Rattle.est_kernel.specs.declared.kernel.Kernel.{Kernel}
use Rattle.est_meaning.specs.declared.status.Status.{Status}
use Rattle.est_cells.specs.Tables.{Sheet}
use Rattle.est_net.specs.Cells.{cell_at}
use Rattle.est_net.specs.Layout.{output_count, sheet_in}
use Rattle.lab_instant.specs.declared.seen.Instant.{Instant}
use Rattle.lab_instant.specs.declared.seen.Instant.TheVariants.{Reaction, Stuck}
use Rattle.lab_ties.specs.Ties.{local_ties, ties}
use Rattle.lab_ties.specs.declared.tie.OpenSignal.TheVariants.{Interface}
use Rattle.lab_ties.specs.declared.tie.Tie.{Tie}

-- the sheet of a kernel's statement in the list of its cells
abbrev pub sheet_of : (k : Kernel) → List Status → Sheet true k.root
sheet_of k cells = sheet_in (cell_at cells) true k.root (output_count k.interface) 0

-- what is tied to the signal at a place of the interface
abbrev pub ties_of_signal : Kernel → List Status → ℕ → List Tie
ties_of_signal k cells n = ties (outer n) (Interface n) true k.root 0 0 (sheet_of k cells)

-- the same if it is in the set
abbrev pub ties_if : Kernel → (undecided : ℕ) → List Status → ℕ → List Tie
ties_if k undecided cells n = cond (bits undecided n) (ties_of_signal k cells n) []

-- what is tied to those of the first signals of the interface that are in the set
unfoldable pub signal_ties : Kernel → (undecided : ℕ) → List Status → ℕ → List Tie
signal_ties k undecided cells zero = []
signal_ties k undecided cells (suc n) = signal_ties k undecided cells n ++ ties_if k undecided cells n

-- what is tied to the signals that are not decided: those of the interface that are in the set, and the local ones
-- whose cells are open
abbrev pub open_ties : Kernel → (undecided : ℕ) → List Status → List Tie
open_ties k undecided cells =
    signal_ties k undecided cells (length k.interface) ++ local_ties true k.root 0 0 (sheet_of k cells)

-- the same of an instant: of one with a reaction there are none
abbrev pub instant_ties : Kernel → List Status → Instant → List Tie
instant_ties k cells (Reaction o seen) = []
instant_ties k cells (Stuck s seen) = open_ties k s.undecided cells
