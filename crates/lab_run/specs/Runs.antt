-- What a run of the program does (this project's own form).
use Rattle.std.specs.Prelude.{◌≡◌, ◌⊎◌, ℕ, List, [], Option, None}
use Rattle.std.specs.Io.KnownBytes.{Appends}
use Rattle.access_core.specs.declared.refusal.Refusal.TheVariants as refusal
use Rattle.access_core.specs.declared.reply.Reply.TheVariants as reply
use Rattle.wire_lines.specs.Replies.{line_of}
use Rattle.wire_reader.specs.Serving.{Serves as ServesBy, between}
use Rattle.wire_reader.specs.declared.serving.EndReason.{EndReason}
use Rattle.wire_reader.specs.declared.serving.EndReason.TheVariants.{Closed, TooLong, ReadFault, WriteFault, Memory}
use Rattle.lab_run.specs.Lines.{HasNoText, IsAnswer, IsTextOf}
use Rattle.lab_run.specs.Proving.{TellsOfText}
use Rattle.lab_run.specs.Statuses.{status_of}
use Rattle.lab_run.specs.declared.answer.LabAnswerer.{LabAnswerer}
use Rattle.lab_run.specs.declared.lab.Lab.{Lab}
use Rattle.lab_run.specs.declared.lab.LabReply.{LabReply}
use Rattle.lab_run.specs.declared.invocation.ProveOptions.{ProveOptions}

-- the status after the end of the lines
abbrev pub status_of_end : EndReason → ℕ
status_of_end Closed = 0
status_of_end TooLong = 0
status_of_end ReadFault = 1
status_of_end WriteFault = 1
status_of_end Memory = 3

-- the text is the answer to the line, over what is loaded
abbrev pub Tells : (before : LabAnswerer × Lab) → (line text : List ℕ) → (after : LabAnswerer × Lab) → Type 0
Tells before line text after = IsAnswer before.1.stepped line text after.1.stepped

-- memory was refused for the text of the answer
abbrev pub TellsNothing : (before : LabAnswerer × Lab) → (line : List ℕ) → (after : LabAnswerer × Lab) → Type 0
TellsNothing before line after = HasNoText before.1.stepped line after.1.stepped

-- the lines are answered, first of a lab in which nothing is loaded
pub record ServesLines (ahead : Option (List ℕ)) (status : ℕ) (written after : Option (List ℕ)) : Type 0 where
  pub why : EndReason
  pub opened : LabAnswerer × Lab
  pub empty : opened.1.stepped ≡ None
  pub closed : LabAnswerer × Lab
  pub serves : ServesBy Tells TellsNothing (line_of (reply.Refused refusal.TooLong)) (between ahead opened) why closed
      written after [] []
  pub ends : status ≡ status_of_end why

-- the lines are answered; or memory was refused before the first one, and nothing is written
abbrev pub ServesAll : (ahead : Option (List ℕ)) → (status : ℕ) → (written after : Option (List ℕ)) → Type 0
ServesAll ahead status written after = ServesLines ahead status written after ⊎ ((status ≡ 3) × (after ≡ written))

-- the line of what is told is written
pub record IsWrittenLine (told : LabReply) (status : ℕ) (written after : Option (List ℕ)) : Type 0 where
  pub line : List ℕ
  pub is : IsTextOf told line
  pub appends : Appends written after line
  pub ends : status ≡ status_of told

-- the same, or memory was refused or the writer failed
abbrev pub TellsSo : LabReply → (status : ℕ) → (written after : Option (List ℕ)) → Type 0
TellsSo told status written after = IsWrittenLine told status written after ⊎ (status ≡ 3)

-- the claims of the invocation are judged on the module of a text, and what is told of them is written
pub record IsProved (p : ProveOptions) (text : List ℕ) (status : ℕ) (written after : Option (List ℕ)) : Type 0 where
  pub told : LabReply
  pub right : TellsOfText p text told
  pub said : TellsSo told status written after

-- the same, or memory was refused
abbrev pub ProvesText : ProveOptions → (text : List ℕ) → (status : ℕ) → (written after : Option (List ℕ)) → Type 0
ProvesText p text status written after = IsProved p text status written after ⊎ (status ≡ 3)

-- an invocation to prove is done on some text; or the file can't be read, and nothing is written
abbrev pub Proves : ProveOptions → (status : ℕ) → (written after : Option (List ℕ)) → Type 0
Proves p status written after =
    ((text : List ℕ) × ProvesText p text status written after) ⊎ ((status ≡ 2) × (after ≡ written))

-- a run of the program: lines are answered; an invocation to prove is done; or the words can't be read, and nothing is
-- written
abbrev pub Runs : (ahead : Option (List ℕ)) → (status : ℕ) → (written after : Option (List ℕ)) → Type 0
Runs ahead status written after = ServesAll ahead status written after
    ⊎ (((p : ProveOptions) × Proves p status written after)
    ⊎ (((status ≡ 2) ⊎ (status ≡ 3)) × (after ≡ written)))
