-- An instant as it is seen from inside (this project's own form).
use Rattle.std.specs.Prelude.{◌≡◌, true, List}
use Rattle.est_kernel.specs.Bits.{bits}
use Rattle.est_kernel.specs.declared.kernel.Kernel.{Kernel}
use Rattle.est_kernel.specs.declared.state.Inputs.{Inputs}
use Rattle.est_kernel.specs.declared.state.Outcome.{Outcome}
use Rattle.est_kernel.specs.declared.state.State.{State}
use Rattle.est_kernel.specs.declared.state.Stuck.{Stuck as Undecided}
use Rattle.est_meaning.specs.declared.status.Status.{Status}
use Rattle.est_net.specs.Cells.{cell_at}
use Rattle.est_net.specs.Layout.{output_count}
use Rattle.est_net.specs.Owners.{owners_in}
use Rattle.est_net.specs.declared.owners.StatementCell.{StatementCell}
use Rattle.est_rounds.specs.Contract.{HasNoReaction, IsReaction}
use Rattle.est_micro.specs.Engine.{HasValues, IsAsMeant, IsNetOf}
use Rattle.lab_instant.specs.OwnCells.{signal_places}
use Rattle.lab_instant.specs.Seen.{all_begun, all_locals, all_resumed}
use Rattle.lab_instant.specs.declared.instant.InstantReader.{InstantReader}
use Rattle.lab_instant.specs.declared.seen.Instant.{Instant}
use Rattle.lab_instant.specs.declared.seen.Instant.TheVariants.{Reaction, Stuck}
use Rattle.lab_instant.specs.declared.seen.Seen.{Seen}

-- whose the cells of a kernel's statement are, in their order
abbrev pub statement_cells : Kernel → List StatementCell
statement_cells k = owners_in true k.root 0 0 0

-- what took part, by the cells
pub record IsSeen (k : Kernel) (cells : List Status) (seen : Seen) : Type 0 where
  pub began : seen.began.items ≡ all_begun (statement_cells k) (cell_at cells) (output_count k.interface)
  pub went_on : seen.went_on.items ≡ all_resumed (statement_cells k) (cell_at cells) (output_count k.interface)
  pub locals : seen.locals.items ≡ all_locals (statement_cells k) (cell_at cells) (output_count k.interface)

-- there is this reaction; in it each cell has its value, and what took part is read off the cells
pub record IsReactionSeen (k : Kernel) (x : State) (i : Inputs) (cells : List Status) (o : Outcome) (told : Seen)
    : Type 0 where
  pub reaction : IsReaction k x i o
  pub values : HasValues k x (bits i.signals) cells
  pub seen : IsSeen k cells told

-- there is no reaction, and the set has the signals of the interface that the meaning leaves undecided; exactly those
-- cells are open that the meaning leaves open, and by them it is told what took part so far
pub record IsStuckSeen (k : Kernel) (x : State) (i : Inputs) (cells : List Status) (s : Undecided) (told : Seen)
    : Type 0 where
  pub none : HasNoReaction k x i s
  pub meant : IsAsMeant k x (bits i.signals) cells
  pub seen : IsSeen k cells told

-- the instant of a kernel in this state with these inputs, by the cells that it leaves
abbrev pub IsInstant : Kernel → State → Inputs → List Status → Instant → Type 0
IsInstant k x i cells (Reaction o told) = IsReactionSeen k x i cells o told
IsInstant k x i cells (Stuck s told) = IsStuckSeen k x i cells s told

-- it reads the instants of this kernel
pub record IsFor (inside : InstantReader) (k : Kernel) : Type 0 where
  pub net : IsNetOf inside.engine.net k
  pub cells : inside.cells.items ≡ statement_cells k
  pub signals : inside.signals.items ≡ signal_places inside.cells.items
