-- How the program ends (this project's own form).
use Rattle.std.specs.Prelude.{◌≡◌, ℕ, List, Option, Some, None, Result, Ok, Err, ⊤, IfSome, codes}
use Rattle.std.specs.Io.KnownBytes.{Appends}
use Rattle.std.specs.declared.io.ErrorKind.{ErrorKind}
use Rattle.std.specs.declared.io.ErrorKind.TheVariants.{OutOfMemory}
use Rattle.program_run.specs.declared.fault.Fault.{Fault}
use Rattle.program_run.specs.declared.fault.Fault.TheVariants as fault
use Rattle.program_words.specs.declared.fault.WordFault.{WordFault}
use Rattle.program_words.specs.declared.fault.WordFault.TheVariants as words
use Rattle.wire_reader.specs.declared.serving.EndReason.{EndReason}
use Rattle.wire_reader.specs.declared.serving.EndReason.TheVariants as why

-- the status of a fault: 2 for the words, and else 1
abbrev pub status_of : Fault → ℕ
status_of (fault.Words e) = 2
status_of fault.Unreadable = 2
status_of fault.Read = 1
status_of fault.Write = 1
status_of fault.Memory = 1
status_of fault.Socket = 1
status_of fault.Mismatch = 1

-- the line that tells a fault of a word, of a device, of memory or of what was kept
abbrev pub told_line : Fault → Option (List ℕ)
told_line (fault.Words e) = None
told_line fault.Unreadable = Some (codes "estserve: a word is not UTF-8\n")
told_line fault.Read = Some (codes "estserve: read fault\n")
told_line fault.Write = Some (codes "estserve: write fault\n")
told_line fault.Memory = Some (codes "estserve: no memory\n")
told_line fault.Socket = Some (codes "estserve: socket fault\n")
told_line fault.Mismatch = Some (codes "estserve: mismatch\n")

-- the line that tells the fault was written; for a fault of the words that is clap's text
abbrev pub IsTold : Fault → (before after : Option (List ℕ)) → Type 0
IsTold given before after = IfSome (told_line given) (λ line. Appends before after line)

-- the fault of the program where its words have this fault
abbrev pub IsOfWords : WordFault → Fault → Type 0
IsOfWords (words.Words e) given = given ≡ fault.Words e
IsOfWords words.Memory given = given ≡ fault.Memory

-- the fault where the words could not be taken, by the kind of the error: memory was refused, or else one word is not
-- UTF-8
abbrev pub fault_of_taking : ErrorKind → Fault
fault_of_taking OutOfMemory = fault.Memory
fault_of_taking _ = fault.Unreadable

-- what the end of a connection means for the program
abbrev pub IsOutcome : EndReason → Result ⊤ Fault → Type 0
IsOutcome why.Closed (Ok _) = Unit {0}
IsOutcome why.TooLong (Ok _) = Unit {0}
IsOutcome why.ReadFault (Err f) = f ≡ fault.Read
IsOutcome why.WriteFault (Err f) = f ≡ fault.Write
IsOutcome why.Memory (Err f) = f ≡ fault.Memory
IsOutcome _ _ = ⊥
