-- What contracts see of a reader of lines (this project's own form).
use Rattle.std.specs.Prelude.{◌≡◌, ◌+◌, ◌*◌, ℕ, List, length, slice_range, Option, Some, None, Result, Ok, Err, ⊤, ◌≢◌}
use Rattle.std.specs.Prelude.{◌⊎◌}
use Rattle.wire_reader.specs.declared.lines.LineReader.{LineReader}
use Rattle.wire_reader.specs.declared.lines.TheConstants.{LINE_BUFFER_BYTES}
use Rattle.wire_reader.specs.declared.lines.Ending.{Ending}
use Rattle.wire_reader.specs.declared.lines.Ending.TheVariants as ending
use Rattle.wire_reader.specs.declared.lines.LineFault.{LineFault}
use Rattle.wire_reader.specs.declared.lines.LineFault.TheVariants.{TooLong, Read}
use Rattle.wire_reader.specs.declared.lines.Line.{Line}
use Rattle.wire_reader.specs.declared.lines.Line.TheVariants.{Whole, End}
use Rattle.wire_reader.specs.Lines.{IsOver, HasNoEnd}

-- the bytes that were read and are in no line yet
abbrev pub held_bytes : LineReader → List ℕ
held_bytes r = slice_range r.bytes.items r.start r.end

-- the last line that was told
abbrev pub last_line : LineReader → List ℕ
last_line r = slice_range r.bytes.items r.from r.to

-- what is answered from an ending on
abbrev pub answer_after : Ending → Result Line LineFault
answer_after ending.End = Ok End
answer_after ending.TooLong = Err TooLong
answer_after ending.Read = Err Read

-- what an answer leaves: an ending stays, and after a last line that no LF ends the end is known to come next
abbrev pub Leaves : Result Line LineFault → Option Ending → (held : List ℕ) → (left : Option (List ℕ)) → Type 0
Leaves (Ok Whole) None held left = ⊤
Leaves (Ok Whole) (Some e) held left = (e ≡ ending.End) × IsOver held left
Leaves (Ok End) e held left = e ≡ Some ending.End
Leaves (Err TooLong) e held left = e ≡ Some ending.TooLong
Leaves (Err Read) e held left = e ≡ Some ending.Read

-- it falls with each read and each line
abbrev pub weight : (reads_left : ℕ) → LineReader → ℕ
weight reads_left r = reads_left * (LINE_BUFFER_BYTES + 1) + length (held_bytes r)

-- the next line is held whole, or an ending was met
abbrev pub IsReady : LineReader → Type 0
IsReady r = (r.ending ≢ None) ⊎ ¬ (HasNoEnd (held_bytes r))
