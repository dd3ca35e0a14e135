-- One turn of a connection, for private clauses.
use Rattle.std.specs.Prelude.{◌≡◌, ℕ, List, ◌++◌, Option, Some, None, Result, Ok, Err, ⊤}
use Rattle.wire_reader.specs.Lines.{IsOver}
use Rattle.wire_reader.specs.Writing.{WritesUpTo}
use Rattle.wire_reader.specs.declared.lines.Ending.{Ending}
use Rattle.wire_reader.specs.declared.lines.Ending.TheVariants as ending
use Rattle.wire_reader.specs.declared.lines.LineFault.{LineFault}
use Rattle.wire_reader.specs.declared.lines.LineFault.TheVariants as fault
use Rattle.wire_reader.specs.declared.lines.Line.{Line}
use Rattle.wire_reader.specs.declared.lines.Line.TheVariants.{Whole, End}
use Rattle.wire_reader.specs.declared.serving.EndReason.{EndReason}
use Rattle.wire_reader.specs.Serving.{BetweenLines, TakesLine, NothingAhead, IsOverLong, AnswersLine, Serves}

-- no ending was met, or the end, with nothing left
abbrev pub IsSound : Option Ending → (held : List ℕ) → (left : Option (List ℕ)) → Type 0
IsSound None held left = ⊤
IsSound (Some e) held left = (e ≡ ending.End) × IsOver held left

-- what the next line of known bytes is
abbrev pub IsNextOf : Option (List ℕ) → Result Line LineFault → (line : List ℕ) → Option (List ℕ) → Type 0
IsNextOf before (Ok Whole) line after = TakesLine before line after
IsNextOf before (Ok End) line after = NothingAhead before
IsNextOf before (Err fault.TooLong) line after = IsOverLong before
IsNextOf before (Err fault.Read) line after = ⊤

-- a line is answered, and its answer waits or is written
pub record Answers {A : Type 0} (tells : A → List ℕ → List ℕ → A → Type 0) (before after : BetweenLines A)
    (written later : Option (List ℕ)) (waiting left : List ℕ) : Type 0 where
  pub line : List ℕ
  pub text : List ℕ
  pub answered : AnswersLine tells before line text after
  pub puts : WritesUpTo written later (waiting ++ text) left

-- a turn answers a line, or is the end of the connection
abbrev pub Turns : {A : Type 0} → (tells : A → List ℕ → List ℕ → A → Type 0) → (fails : A → List ℕ → A → Type 0)
    → (too_long_answer : List ℕ) → BetweenLines A → Result ⊤ EndReason → BetweenLines A
    → (written later : Option (List ℕ))
    → (waiting left : List ℕ) → Type 0
Turns tells fails too_long_answer before (Ok _) after written later waiting left =
    Answers tells before after written later waiting left
Turns tells fails too_long_answer before (Err why) after written later waiting left =
    Serves tells fails too_long_answer before why after.desk written later waiting left
