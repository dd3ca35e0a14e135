-- A connection: lines are cut from what is read, answered in turn, and what they are answered is written (this
-- project's own form).
use Rattle.std.specs.Prelude.{◌≡◌, ℕ, List, [], ◌∷◌, ◌++◌, ◌⊎◌, Option, Some, None, ⊤, map}
use Rattle.std.specs.List.{concat}
use Rattle.wire_reader.specs.Lines.{IsNext, IsTooLong, Cuts}
use Rattle.wire_reader.specs.Writing.{WritesUpTo, WritesFront}
use Rattle.wire_reader.specs.declared.serving.EndReason.{EndReason}
use Rattle.wire_reader.specs.declared.serving.EndReason.TheVariants.{Closed, TooLong, ReadFault, WriteFault, Memory}

-- a connection between two lines: the bytes that are held or still to be read, where they are known, and what answers
-- its lines
pub record BetweenLines (A : Type 0) : Type 0 where
  pub ahead : Option (List ℕ)
  pub desk : A

abbrev pub between : {A : Type 0} → Option (List ℕ) → A → BetweenLines A
between ahead desk = record { ahead = ahead; desk = desk }

-- the next line of known bytes is this one, and these bytes follow it
abbrev pub TakesLine : Option (List ℕ) → (line : List ℕ) → Option (List ℕ) → Type 0
TakesLine None line after = ⊤
TakesLine (Some bytes) line None = ⊥
TakesLine (Some bytes) line (Some others) = IsNext bytes line others

-- no known bytes are ahead
abbrev pub NothingAhead : Option (List ℕ) → Type 0
NothingAhead None = ⊤
NothingAhead (Some bytes) = bytes ≡ []

-- the next line of known bytes is over its limit
abbrev pub IsOverLong : Option (List ℕ) → Type 0
IsOverLong None = ⊤
IsOverLong (Some bytes) = IsTooLong bytes

-- the next line was answered by this text
pub record AnswersLine {A : Type 0} (tells : A → List ℕ → List ℕ → A → Type 0) (before : BetweenLines A)
    (line text : List ℕ) (after : BetweenLines A) : Type 0 where
  pub takes : TakesLine before.ahead line after.ahead
  pub told : tells before.desk line text after.desk

-- a line, and the text that it was answered
pub record Exchange : Type 0 where
  pub line : List ℕ
  pub text : List ℕ

-- lines are answered one after the other
abbrev pub Runs : {A : Type 0} → (tells : A → List ℕ → List ℕ → A → Type 0) → BetweenLines A → List Exchange
    → BetweenLines A → Type 0
Runs tells before [] after = before ≡ after
Runs {A} tells before (e ∷ later) after =
    (next : BetweenLines A) × AnswersLine tells before e.line e.text next × Runs tells next later after

-- the texts of the answers, in turn
abbrev pub texts : List Exchange → List ℕ
texts exchanges = concat (map (λ e. e.text) exchanges)

-- the lines are cut from known bytes in turn, and these are left
abbrev pub KnownCuts : Option (List ℕ) → List (List ℕ) → Option (List ℕ) → Type 0
KnownCuts None lines after = ⊤
KnownCuts (Some bytes) lines None = ⊥
KnownCuts (Some bytes) lines (Some others) = Cuts bytes lines others

-- the answer to the next line found no memory
pub record FindsNoMemory {A : Type 0} (fails : A → List ℕ → A → Type 0) (last : BetweenLines A)
    (desk : A) : Type 0 where
  pub line : List ℕ
  pub others : Option (List ℕ)
  pub takes : TakesLine last.ahead line others
  pub failed : fails last.desk line desk

-- the next line is over its limit, is asked of no desk, and is refused by this text
pub record RefusesLine {A : Type 0} (too_long_answer : List ℕ) (last : BetweenLines A) (desk : A)
    (more : List ℕ) : Type 0 where
  pub long : IsOverLong last.ahead
  pub same_desk : desk ≡ last.desk
  pub refused : more ≡ too_long_answer

-- nothing comes after the answers
pub record IsSilent {A : Type 0} (last : BetweenLines A) (desk : A) (more : List ℕ) : Type 0 where
  pub same_desk : desk ≡ last.desk
  pub nothing : more ≡ []

-- how a connection ends after its last answer, and what more is to be written then
abbrev pub Ends : {A : Type 0} → (fails : A → List ℕ → A → Type 0) → (too_long_answer : List ℕ)
    → (last : BetweenLines A)
    → EndReason → (desk : A) → (more : List ℕ) → Type 0
Ends fails too_long_answer last Closed desk more = NothingAhead last.ahead × IsSilent last desk more
Ends fails too_long_answer last TooLong desk more = RefusesLine too_long_answer last desk more
Ends fails too_long_answer last ReadFault desk more = IsSilent last desk more
Ends fails too_long_answer last WriteFault desk more =
    IsSilent last desk more
    ⊎ (RefusesLine too_long_answer last desk more ⊎ (FindsNoMemory fails last desk × (more ≡ [])))
Ends fails too_long_answer last Memory desk more = FindsNoMemory fails last desk × (more ≡ [])

-- what is written: the text up to what waits, or a front of it where the writer failed
abbrev pub Puts : EndReason → (before after : Option (List ℕ)) → (text left : List ℕ) → Type 0
Puts WriteFault before after text left = WritesFront before after text
Puts _ before after text left = WritesUpTo before after text left

-- lines are answered, then the connection ends for this reason; everything that waited or was answered is written,
-- except what is left
pub record Serves {A : Type 0} (tells : A → List ℕ → List ℕ → A → Type 0) (fails : A → List ℕ → A → Type 0)
    (too_long_answer : List ℕ) (before : BetweenLines A) (why : EndReason) (desk : A) (written after : Option (List ℕ))
    (waiting left : List ℕ) : Type 0 where
  pub exchanges : List Exchange
  pub last : BetweenLines A
  pub more : List ℕ
  pub runs : Runs tells before exchanges last
  pub ends : Ends fails too_long_answer last why desk more
  pub puts : Puts why written after (waiting ++ (texts exchanges ++ more)) left
