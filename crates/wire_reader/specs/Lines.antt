-- The lines of bytes: cutting at LF (this project's own form; LF is the byte 10).
use Rattle.std.specs.Prelude.{◌≡◌, ◌≤◌, ◌<◌, ℕ, List, [], ◌∷◌, ◌++◌, length, ◌==◌, not, IsTrue, ◌⊎◌, Option, Some, None}
use Rattle.std.specs.Prelude.{Result, Ok, Err, ⊤}
use Rattle.std.specs.List.{list_all}
use Rattle.std.specs.Io.KnownBytes.{IsAtEnd}
use Rattle.wire_reader.specs.declared.lines.TheConstants.{LINE_BYTES}
use Rattle.wire_reader.specs.declared.lines.LineFault.{LineFault}
use Rattle.wire_reader.specs.declared.lines.LineFault.TheVariants.{TooLong, Read}
use Rattle.wire_reader.specs.declared.lines.Line.{Line}
use Rattle.wire_reader.specs.declared.lines.Line.TheVariants.{Whole, End}

-- no LF
abbrev pub HasNoEnd : List ℕ → Type 0
HasNoEnd bytes = IsTrue (list_all (λ b. not (b == 10)) bytes)

-- the bytes are one line without an LF, and nothing follows
pub record IsLastLine (bytes line others : List ℕ) : Type 0 where
  pub some : 0 < length line
  pub all : bytes ≡ line
  pub nothing : others ≡ []

-- the next line of the bytes, and what follows it: an LF ends a line, and a last line without one counts if it is not
-- empty
pub record IsNext (bytes line others : List ℕ) : Type 0 where
  pub no_end : HasNoEnd line
  pub short : length line ≤ LINE_BYTES
  pub ended : (bytes ≡ line ++ 10 ∷ others) ⊎ IsLastLine bytes line others

-- more bytes stand before an LF, or the end, than a line may have
pub record IsTooLong (bytes : List ℕ) : Type 0 where
  pub front : List ℕ
  pub others : List ℕ
  pub no_end : HasNoEnd front
  pub long : LINE_BYTES < length front
  pub whole : bytes ≡ front ++ others

-- the lines are cut from the bytes in turn, and these are left
abbrev pub Cuts : (bytes : List ℕ) → (lines : List (List ℕ)) → (others : List ℕ) → Type 0
Cuts bytes [] others = bytes ≡ others
Cuts bytes (line ∷ lines) others = (next : List ℕ) × IsNext bytes line next × Cuts next lines others

-- what a reading of the bytes may answer: the next line, the end, or a fault
abbrev pub IsReading : (bytes : List ℕ) → Result Line LineFault → (line others : List ℕ) → Type 0
IsReading bytes (Ok Whole) line others = IsNext bytes line others
IsReading bytes (Ok End) line others = (bytes ≡ []) × (others ≡ [])
IsReading bytes (Err TooLong) line others = IsTooLong bytes
IsReading bytes (Err Read) line others = others ≡ bytes

-- the same over what is held and what the reader has left, where that is known
abbrev pub Gives : (held : List ℕ) → (left : Option (List ℕ)) → Result Line LineFault → (line more : List ℕ)
    → (after : Option (List ℕ)) → Type 0
Gives held None answer line more after = ⊤
Gives held (Some bytes) answer line more None = ⊥
Gives held (Some bytes) answer line more (Some others) = IsReading (held ++ bytes) answer line (more ++ others)

-- nothing is held, and no known byte is left
pub record IsOver (held : List ℕ) (left : Option (List ℕ)) : Type 0 where
  pub none_held : held ≡ []
  pub none_left : IsAtEnd left
