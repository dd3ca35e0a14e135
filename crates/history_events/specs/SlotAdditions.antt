-- What an accepted command on a slot adds to its journal (this project's own form).
use Rattle.std.specs.Prelude.{◌≡◌, ◌⊎◌, ℕ, List, [], ◌∷◌, ◌++◌, true, length}
use Rattle.est_kernel.specs.Term.{Term}
use Rattle.rbac_policy.specs.declared.commands.Entry.{Entry}
use Rattle.reactor_core.specs.Meaning.{PastMove}
use Rattle.reactor_core.specs.declared.entry.Move.TheVariants.{Load, Offer, Discard, Step, Unload}
use Rattle.reactor_core.specs.declared.entry.SlotEntry.{SlotEntry}
use Rattle.reactor_core.specs.Loading.{GivenModule, Gives}
use Rattle.reactor_core.specs.Meaning.{entry, word_of, instant, Running, RunsAfter, is_loaded}
use Rattle.reactor_core.specs.Answers.{HasRoom, load_of}
use Rattle.reactor_core.specs.Instants.{IsOutcome, KeepsRelations}
use Rattle.access_core.specs.declared.command.SlotCommand.{SlotCommand}
use Rattle.access_core.specs.declared.command.SlotCommand.TheVariants.{Move, Look, Audit}
use Rattle.access_core.specs.declared.reply.Reply.{Reply}
use Rattle.access_core.specs.Needs.{IsAccepted}
use Rattle.access_core.specs.SlotStep.{stamp_of, tells_added}
use Rattle.history_events.specs.Accepting.{CanOffer}

-- a load of the text's module, where no module runs
pub record LoadsModule (main text : List ℕ) (before : List SlotEntry) (a : PastMove) : Type 0 where
  pub empty : is_loaded before ≡ true → ⊥
  pub given : GivenModule
  pub gives : Gives main text given
  pub is : a ≡ Load (load_of main text)

-- an offer of an input or inputoutput of the running module that isn't pending, and with which no exclusion is broken
pub record OffersInput (signal : List ℕ) (before : List SlotEntry) (a : PastMove) : Type 0 where
  pub running : Running
  pub runs : RunsAfter before running
  pub can : CanOffer running signal
  pub is : a ≡ Offer signal

-- the instant of the pending inputs, of which each relation holds, and the outputs of their constructive reaction
pub record RunsInstant (before : List SlotEntry) (a : PastMove) : Type 0 where
  pub lawful : KeepsRelations before
  pub outputs : ℕ
  pub next : Term
  pub outcome : IsOutcome before outputs next
  pub is : a ≡ Step (instant outcome.running.pending outputs)

-- a discard of what is pending, where a module runs
pub record DiscardsInputs (before : List SlotEntry) (a : PastMove) : Type 0 where
  pub loaded : is_loaded before ≡ true
  pub is : a ≡ Discard

-- an unload of the module that runs
pub record UnloadsModule (before : List SlotEntry) (a : PastMove) : Type 0 where
  pub loaded : is_loaded before ≡ true
  pub is : a ≡ Unload

-- the move is what the command asks for, on this journal
abbrev pub IsMoveOf : SlotCommand → (before : List SlotEntry) → PastMove → Type 0
IsMoveOf (Move (Load l)) before a = LoadsModule l.main l.text before a
IsMoveOf (Move (Offer signal)) before a = OffersInput signal before a
IsMoveOf (Move Discard) before a = DiscardsInputs before a
IsMoveOf (Move (Step i)) before a = RunsInstant before a
IsMoveOf (Move Unload) before a = UnloadsModule before a
IsMoveOf (Look n) before a = ⊥
IsMoveOf Audit before a = ⊥

-- the command is accepted, one entry of what it asks for is added, for which there is room, and the reply tells so
pub record AddsMove (entries : List Entry) (session : ℕ) (command : SlotCommand) (before : List SlotEntry)
    (reply : Reply) (after : List SlotEntry) : Type 0 where
  pub accepted : IsAccepted reply
  pub does : PastMove
  pub is : IsMoveOf command before does
  pub room : HasRoom before
  pub added : after ≡ before ++ entry (stamp_of entries session) does ∷ []
  pub told : reply ≡ tells_added (word_of does) (length entries) after

-- the command only asks: it is a look or an audit
abbrev pub OnlyAsks : SlotCommand → Type 0
OnlyAsks command = ((n : ℕ) × (command ≡ Look n)) ⊎ (command ≡ Audit)

-- the command is refused or only asks, and nothing is added
pub record AddsNone (command : SlotCommand) (before : List SlotEntry) (reply : Reply)
    (after : List SlotEntry) : Type 0 where
  pub no_more : IsAccepted reply → OnlyAsks command
  pub stays : after ≡ before

-- what a command on a slot does to its journal
abbrev pub ChangesJournal : (entries : List Entry) → (session : ℕ) → SlotCommand → (before : List SlotEntry) → Reply
    → (after : List SlotEntry) → Type 0
ChangesJournal entries session command before reply after = AddsMove entries session command before reply after
    ⊎ AddsNone command before reply after
