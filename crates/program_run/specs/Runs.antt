-- What a run of the program does (this project's own form).
use Rattle.std.specs.Prelude.{◌≡◌, ℕ, List, ◌⊎◌, Option, Result, Ok, Err, Bool, true, false, ⊤, map}
use Rattle.std.specs.Io.KnownBytes.{Keeps}
use Rattle.access_core.specs.Desk.{DeskState, opening_desk}
use Rattle.access_core.specs.SlotState.{SlotState}
use Rattle.wire_reader.specs.Meters.{IsStopped, has_failed}
use Rattle.wire_reader.specs.declared.serving.EndReason.{EndReason}
use Rattle.wire_reader.specs.declared.serving.EndReason.TheVariants as why
use Rattle.client_loop.specs.Asking.{DeskAnswers}
use Rattle.client_loop.specs.Connections.{ServesConnection}
use Rattle.program_run.specs.declared.fault.Fault.{Fault}
use Rattle.program_run.specs.declared.fault.Fault.TheVariants as fault
use Rattle.program_run.specs.Reports.{Reports}
use Rattle.program_run.specs.Faults.{status_of, IsOfWords, IsOutcome}
use Rattle.program_run.specs.Serving.{ServesSource, ServesOverSocket}
use Rattle.program_words.specs.Words.{IsInvocation, IsRefused}
use Rattle.program_words.specs.declared.fault.WordFault.{WordFault}
use Rattle.program_words.specs.declared.invocation.Invocation.{Invocation}
use Rattle.program_words.specs.declared.invocation.Invocation.TheVariants.{Script, Serve}
use Rattle.clap.specs.Words.{Text}

-- one connection is served over a new desk, it ends for this reason, and none of its logins is held any more
pub record ServesOne (refused : Bool) (ahead : Option (List ℕ)) (why : EndReason)
    (written after : Option (List ℕ)) : Type 0 where
  pub desk : DeskState
  pub one : ServesConnection (λ a ask given b. DeskAnswers a ask given b) refused ahead opening_desk why desk written
      after

-- memory was refused before the connection was opened, and nothing is written
pub record NeverOpens (answer : Result ⊤ Fault) (written after : Option (List ℕ)) : Type 0 where
  pub no_memory : answer ≡ Err fault.Memory
  pub silent : Keeps written after

-- the end of a run without a fault: the report on the desk's list and journals, where it is asked for, and else no
-- more is written
abbrev pub Finishes : (report : Bool) → DeskState → Result ⊤ Fault → (written after : Option (List ℕ)) → Type 0
Finishes true desk answer written after = Reports desk.entries
    (map (λ (s : SlotState). s.journal) desk.slots) written answer after
Finishes false desk answer written after = (answer ≡ Ok tt) × (after ≡ written)

-- where something can't be written, the writer has failed: in the connection, and then no more is written; or after it
abbrev pub CannotWrite : EndReason → (before after : ℕ) → Type 0
CannotWrite why.WriteFault before after = after ≡ before
CannotWrite other before after = has_failed before after ≡ true

-- what the end of a connection means for the program, with what it has written by then: a fault, or what follows it
abbrev pub EndsScript : (report : Bool) → EndReason → DeskState → Result ⊤ Fault → (written after : Option (List ℕ))
    → Type 0
EndsScript report why.Closed desk answer written after = Finishes report desk answer written after
EndsScript report why.TooLong desk answer written after = Finishes report desk answer written after
EndsScript report other desk answer written after = IsOutcome other answer × (after ≡ written)

-- what a connection that was served means for the program
pub record Ends (refused report : Bool) (ahead : Option (List ℕ)) (answer : Result ⊤ Fault)
    (written after : Option (List ℕ)) : Type 0 where
  pub why : EndReason
  pub answers : Option (List ℕ)
  pub one : ServesOne refused ahead why written answers
  pub ends : EndsScript report why one.desk answer answers after

-- standard input and output are served as one connection, or memory for that was refused
abbrev pub RunsScript : (refused report : Bool) → (ahead : Option (List ℕ)) → Result ⊤ Fault
    → (written after : Option (List ℕ)) → Type 0
RunsScript refused report ahead answer written after = NeverOpens answer written after
    ⊎ Ends refused report ahead answer written after

-- the command line is rejected, or there was no memory to read it; nothing is written
pub record IsNoInvocation (words : List Text) (answer : Result ⊤ Fault) (written after : Option (List ℕ)) : Type 0 where
  pub why : WordFault
  pub refused : IsRefused words why
  pub given : Fault
  pub answered : answer ≡ Err given
  pub of_words : IsOfWords why given
  pub silent : Keeps written after

-- what the invocation asks for is done: one connection is served, with or without a report; or n workers serve a
-- socket, and standard output gets only the report at the end
abbrev pub Does : Invocation → (refused : Bool) → (ahead : Option (List ℕ)) → Result ⊤ Fault
    → (written after : Option (List ℕ)) → Type 0
Does (Script log report) refused ahead answer written after = RunsScript refused report ahead answer written after
Does (Serve service) refused ahead answer written after =
    ServesSource ServesOverSocket service.workers service.connections answer written after

-- the command line spells an invocation, and it is carried out
pub record DoesInvocation (words : List Text) (refused : Bool) (ahead : Option (List ℕ)) (answer : Result ⊤ Fault)
    (written after : Option (List ℕ)) : Type 0 where
  pub invocation : Invocation
  pub is : IsInvocation words invocation
  pub does : Does invocation refused ahead answer written after

-- the command line is rejected, or what it orders is done
abbrev pub Obeys : (words : List Text) → (refused : Bool) → (ahead : Option (List ℕ)) → Result ⊤ Fault
    → (written after : Option (List ℕ)) → Type 0
Obeys words refused ahead answer written after = IsNoInvocation words answer written after
    ⊎ DoesInvocation words refused ahead answer written after

-- the status with which the program ends: 0 without a fault, else that of the fault
abbrev pub status_after : Result ⊤ Fault → ℕ
status_after (Ok _) = 0
status_after (Err given) = status_of given

-- a fault of a device is told only where that device failed in the run, or was read too often
pub record NamesDevices (answer : Result ⊤ Fault) (reader_failed : Bool) (reads_left : ℕ)
    (writer_failed : Bool) : Type 0 where
  pub read : answer ≡ Err fault.Read → IsStopped reader_failed reads_left
  pub write : answer ≡ Err fault.Write → writer_failed ≡ true

-- a run of the program: what its words ask for is done, and its status tells how that ended
pub record Runs (words : List Text) (refused : Bool) (ahead : Option (List ℕ)) (written after : Option (List ℕ))
    (reader_failed : Bool) (reads_left : ℕ) (writer_failed : Bool) (status : ℕ) : Type 0 where
  pub answer : Result ⊤ Fault
  pub obeys : Obeys words refused ahead answer written after
  pub devices : NamesDevices answer reader_failed reads_left writer_failed
  pub tells : status ≡ status_after answer
