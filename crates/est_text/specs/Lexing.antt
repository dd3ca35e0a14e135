-- Why a text has no tokens (this project's own form).
use Rattle.std.specs.Prelude.{◌≡◌, ◌+◌, ℕ, List, length, take}
use Rattle.est_text.specs.Pieces.{Cut, ArePieces, IsFault}
use Rattle.est_text.specs.Places.{place_after}
use Rattle.est_text.specs.declared.lex.LexFault.{LexFault}
use Rattle.est_text.specs.declared.lex.LexFault.TheVariants.{Lexical, Memory}

-- pieces go as far as this byte, counted from 0, and no piece stands there
abbrev pub IsFirstFault : List ℕ → ℕ → Type 0
IsFirstFault text at =
    (cs : List Cut) × (rest : List ℕ) × ArePieces text cs rest × IsFault rest × (at + length rest ≡ length text)

-- why a text has no tokens: the first fault, by line and column; refused memory says nothing about the text
abbrev pub IsLexFault : List ℕ → LexFault → Type 0
IsLexFault text (Lexical place) = (at : ℕ) × IsFirstFault text at × (place ≡ place_after (take at text))
IsLexFault text Memory = Unit {0}
