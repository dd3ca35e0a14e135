-- Places of a buffer, for private clauses.
use Rattle.std.specs.Prelude.{◌≡◌, ◌≤◌, ◌<◌, ◌+◌, ℕ, List, [], ◌∷◌, ◌++◌, length, slice_range, Option, Some, None}
use Rattle.std.specs.Prelude.{Result, Ok, Err, ⊤}
use Rattle.std.specs.Io.KnownBytes.{IsAtEnd}
use Rattle.wire_reader.specs.declared.lines.TheConstants.{LINE_BYTES}
use Rattle.wire_reader.specs.declared.lines.Ending.{Ending}
use Rattle.wire_reader.specs.declared.lines.Ending.TheVariants as ending
use Rattle.wire_reader.specs.declared.lines.LineFault.{LineFault}
use Rattle.wire_reader.specs.declared.lines.LineFault.TheVariants.{TooLong, Read}
use Rattle.wire_reader.specs.declared.lines.Line.{Line}
use Rattle.wire_reader.specs.declared.lines.Line.TheVariants.{Whole, End}
use Rattle.wire_reader.specs.Lines.{HasNoEnd, IsTooLong}

-- what lines come from stays the same, where it is known: what is held, and what the reader has left
abbrev pub SameAhead : (held : List ℕ) → (left : Option (List ℕ)) → (more : List ℕ) → (after : Option (List ℕ)) → Type 0
SameAhead held None more after = ⊤
SameAhead held (Some bytes) more None = ⊥
SameAhead held (Some bytes) more (Some others) = held ++ bytes ≡ more ++ others

-- a read added to what is held, or gave up; at 0 bytes no known byte is left
abbrev pub Adds : (held : List ℕ) → (left : Option (List ℕ)) → (count : Option ℕ) → (more : List ℕ)
    → (after : Option (List ℕ)) → Type 0
Adds held left None more after = (more ≡ held) × SameAhead held left more after
Adds held left (Some n) more after = SameAhead held left more after × (n ≡ 0 → (more ≡ held) × IsAtEnd after)

-- the first LF from a place up to another stands here
pub record HasFirstEnd (bytes : List ℕ) (start at end : ℕ) : Type 0 where
  pub low : start ≤ at
  pub high : at < end
  pub no_end : HasNoEnd (slice_range bytes start at)
  pub cut : slice_range bytes start end ≡ slice_range bytes start at ++ 10 ∷ slice_range bytes (at + 1) end

-- the line at the front of what is held, which an LF ends
abbrev pub Tells : (held : List ℕ) → Result Line LineFault → (line more : List ℕ) → Type 0
Tells held (Ok Whole) line more = HasNoEnd line × (length line ≤ LINE_BYTES) × (held ≡ line ++ 10 ∷ more)
Tells held (Ok End) line more = ⊥
Tells held (Err TooLong) line more = IsTooLong held
Tells held (Err Read) line more = ⊥

-- what is held at the end, which no LF ends
abbrev pub TellsLast : (held : List ℕ) → Line → (line more : List ℕ) → Type 0
TellsLast held Whole line more = (line ≡ held) × (0 < length line) × (more ≡ [])
TellsLast held End line more = (held ≡ []) × (more ≡ [])

-- the ending that is noted where a line is cut at an LF
abbrev pub Notes : Result Line LineFault → Option Ending → Type 0
Notes (Ok _) e = e ≡ None
Notes (Err TooLong) e = e ≡ Some ending.TooLong
Notes (Err Read) e = ⊥
