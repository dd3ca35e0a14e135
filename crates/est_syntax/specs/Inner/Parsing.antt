-- What a function of the parser has read (this project's own form).
use Rattle.std.specs.Prelude.{◌≡◌, ℕ, ◌+◌, ◌≤◌, length, List, [], ◌∷◌, ◌++◌, Bool, true, false, Option, Some, None, ◌<◌}
use Rattle.est_text.specs.declared.token.Token.{Token}
use Rattle.est_syntax.specs.declared.fault.ParserStop.{ParserStop}
use Rattle.est_syntax.specs.declared.fault.ParserStop.TheVariants.{Syntax, TooDeep, Memory}
use Rattle.est_text.specs.declared.token.Token.TheVariants.{Keyword, Symbol}
use Rattle.est_text.specs.declared.keyword.Keyword.TheVariants as keyword
use Rattle.est_text.specs.declared.token.Symbol.TheVariants as symbol
use Rattle.est_syntax.specs.Tree.{RenamingTree}
use Rattle.est_syntax.specs.Grammar.{renaming_onto, later_renamings_onto, declaration_onto}
use Rattle.est_syntax.specs.Views.{declaration_view}
use Rattle.est_syntax.specs.declared.tree.Declaration.{Declaration}
use Rattle.est_syntax.specs.declared.parse.TheConstants.{MOST_OPEN_UNITS}
use Rattle.est_syntax.specs.Inner.Machine.{Want, run, wrong, deep, open_count, Ends, EndsNot, Skips, declarations}
use Rattle.est_syntax.specs.Inner.Machine.{unit_start, refused}

-- what is wanted stood first, and the rest follows
pub record Reads (ws : List Want) (bs rest : List Token) : Type 0 where
  pub passes : (s : List Want) → run MOST_OPEN_UNITS (ws ++ s) bs ≡ run MOST_OPEN_UNITS s rest
  pub shorter : length rest ≤ length bs

-- the tokens stop where what is wanted does not stand; n tokens are left there
abbrev pub Fails : List Want → List Token → ParserStop → Type 0
Fails ws bs (Syntax n) =
    (rest : List Token) × (n ≡ length rest) × ((s : List Want) → run MOST_OPEN_UNITS (ws ++ s) bs ≡ wrong rest)
Fails ws bs (TooDeep n) =
    (rest : List Token) × (n ≡ length rest) × ((s : List Want) → run MOST_OPEN_UNITS (ws ++ s) bs ≡ deep rest)
Fails ws bs Memory = Unit {0}

-- the fault is not want of memory
abbrev pub NotMemory : ParserStop → Type 0
NotMemory (Syntax n) = Unit {0}
NotMemory (TooDeep n) = Unit {0}
NotMemory Memory = ⊥

-- whether what is around can go on with `end`
abbrev pub EndsSo : Bool → List Want → Type 0
EndsSo true s = Ends s
EndsSo false s = EndsNot s

-- the same where that may not matter
abbrev pub EndsAs : Option Bool → List Want → Type 0
EndsAs None s = Unit {0}
EndsAs (Some ends) s = EndsSo ends s

-- the wants around a part of a unit; `room` more units may be opened there
pub record Round (room : ℕ) (ends : Option Bool) (s : List Want) : Type 0 where
  pub fits : open_count s + room ≡ MOST_OPEN_UNITS
  pub closing : EndsAs ends s

-- as `Fails`, for the wants that `Round` allows around it
abbrev pub FailsIn : ℕ → Option Bool → List Want → List Token → ParserStop → Type 0
FailsIn room ends ws bs (Syntax n) = (rest : List Token) × (n ≡ length rest)
    × ((s : List Want) → Round room ends s → run MOST_OPEN_UNITS (ws ++ s) bs ≡ wrong rest)
FailsIn room ends ws bs (TooDeep n) = (rest : List Token) × (n ≡ length rest)
    × ((s : List Want) → Round room ends s → run MOST_OPEN_UNITS (ws ++ s) bs ≡ deep rest)
FailsIn room ends ws bs Memory = Unit {0}

-- a part of a tree was read: its tokens, how deep it is, what the machine does there
pub record IsPart (room : ℕ) (ends : Option Bool) (ws : List Want) (text : List Token) (depth : ℕ)
    (old new : List Token) : Type 0 where
  pub spelt : old ≡ text
  pub fits : depth ≤ room
  pub passes : (s : List Want) → Round room ends s → run MOST_OPEN_UNITS (ws ++ s) old ≡ run MOST_OPEN_UNITS s new
  pub shorter : length new ≤ length old

-- `Reads` before a unit's end, where it counts whether what is around can go on with `end`
pub record ReadsBefore (ends : Bool) (ws : List Want) (bs rest : List Token) : Type 0 where
  pub passes : (s : List Want) → EndsSo ends s → run MOST_OPEN_UNITS (ws ++ s) bs ≡ run MOST_OPEN_UNITS s rest
  pub shorter : length rest ≤ length bs

-- `Fails` before a unit's end
abbrev pub FailsBefore : Bool → List Want → List Token → ParserStop → Type 0
FailsBefore ends ws bs (Syntax n) = (rest : List Token) × (n ≡ length rest)
    × ((s : List Want) → EndsSo ends s → run MOST_OPEN_UNITS (ws ++ s) bs ≡ wrong rest)
FailsBefore ends ws bs (TooDeep n) =
    (rest : List Token) × (n ≡ length rest) × ((s : List Want) → EndsSo ends s
    → run MOST_OPEN_UNITS (ws ++ s) bs ≡ deep rest)
FailsBefore ends ws bs Memory = Unit {0}

-- the renamings so far, without the closing bracket
abbrev pub renamings_so_far : List RenamingTree → List Token → List Token
renamings_so_far [] rest = rest
renamings_so_far (r ∷ rs) rest =
    Symbol symbol.OpenBracket ∷ Keyword keyword.Signal ∷ renaming_onto r (later_renamings_onto rs rest)

-- a declaration, or none begins there
abbrev pub IsDeclared : Option Declaration → List Token → List Token → Type 0
IsDeclared None old new = (new ≡ old) × Skips (Keyword keyword.Input) old × Skips (Keyword keyword.Output) old
    × Skips (Keyword keyword.Inputoutput) old × Skips (Keyword keyword.Relation) old
IsDeclared (Some d) old new = (old ≡ declaration_onto (declaration_view d) new) × (length new < length old)
    × ((s : List Want) → run MOST_OPEN_UNITS (declarations ∷ s) old ≡ run MOST_OPEN_UNITS (declarations ∷ s) new)

-- whether a unit begins there
abbrev pub IsUnitStart : Bool → List Token → Type 0
IsUnitStart true [] = ⊥
IsUnitStart true (b ∷ bs) = ¬ (unit_start b ≡ refused)
IsUnitStart false [] = Unit {0}
IsUnitStart false (b ∷ bs) = unit_start b ≡ refused

-- the token stands first
abbrev pub StandsFirst : Token → List Token → Type 0
StandsFirst t bs = (rest : List Token) × (bs ≡ t ∷ rest)
