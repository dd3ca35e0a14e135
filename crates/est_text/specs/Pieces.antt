-- How a text is cut into blanks, comments and tokens (Berry, The Esterel v5 Language Primer). This project's own form
-- are the limit of an identifier's length, that `%{` begins a comment up to the next `}%`, and all that names no
-- source.
use Rattle.std.specs.Prelude.{◌≡◌, ◌≢◌, ◌≤◌, ◌<◌, ◌+◌, ℕ, List, [], ◌∷◌, ◌++◌, length, take, drop, Bool, false, ◌||◌}
use Rattle.std.specs.Prelude.{◌==◌, nat_lt, IsTrue, slice_index, codes, Some, None}
use Rattle.std.specs.List.{list_all}
use Rattle.est_text.specs.Bytes.{space, tab, carriage_return, line_feed, form_feed, percent, open_brace, close_brace}
use Rattle.est_text.specs.Identifiers.{is_identifier, is_identifier_byte}
use Rattle.est_text.specs.Keywords.{keyword_of}
use Rattle.est_text.specs.declared.token.Symbol.{Symbol}
use Rattle.est_text.specs.declared.token.Symbol.TheVariants as symbol
use Rattle.est_text.specs.declared.token.Token.{Token}
use Rattle.est_text.specs.declared.token.Token.TheVariants as token
use Rattle.est_text.specs.declared.token.Located.{Located}
use Rattle.est_text.specs.declared.piece.Piece.{Piece}
use Rattle.est_text.specs.declared.piece.Piece.TheVariants as piece

-- a blank: space, tab, CR, LF or form feed
abbrev pub is_blank : ℕ → Bool
is_blank b = b == space || b == tab || b == carriage_return || b == line_feed || b == form_feed

-- any byte but LF, which ends a line
abbrev pub is_in_line : ℕ → Bool
is_in_line b = nat_lt b line_feed || nat_lt line_feed b

-- the first byte, if there is one, fails the test p
abbrev pub StopsAt : (ℕ → Bool) → List ℕ → Type 0
StopsAt p [] = Unit {0}
StopsAt p (b ∷ bs) = p b ≡ false

-- the text of a symbol (Berry, Language Primer)
abbrev pub symbol_text : Symbol → List ℕ
symbol_text symbol.Colon = codes ":"
symbol_text symbol.Semicolon = codes ";"
symbol_text symbol.Comma = codes ","
symbol_text symbol.Slash = codes "/"
symbol_text symbol.OpenBracket = codes "["
symbol_text symbol.CloseBracket = codes "]"
symbol_text symbol.OpenParenthesis = codes "("
symbol_text symbol.CloseParenthesis = codes ")"
symbol_text symbol.Parallel = codes "||"
symbol_text symbol.Hash = codes "#"
symbol_text symbol.Implies = codes "=>"

-- `%`, and then no `{`, within one line (Berry, Language Primer)
abbrev pub IsLineComment : List ℕ → Type 0
IsLineComment bytes = (cs : List ℕ) × (bytes ≡ percent ∷ cs) × StopsAt (λ b. b == open_brace) cs
    × IsTrue (list_all is_in_line cs)

-- `}%` stands at this place
abbrev pub ClosesAt : List ℕ → ℕ → Type 0
ClosesAt bytes i = (slice_index bytes i ≡ close_brace) × (slice_index bytes (i + 1) ≡ percent)

-- `}%` stands there, and nowhere before
abbrev pub IsFirstClose : List ℕ → ℕ → Type 0
IsFirstClose bytes at =
    (at + 1 < length bytes) × ClosesAt bytes at × ((i : ℕ) → i < at → ¬ (ClosesAt bytes i))

-- `%{`, up to the next `}%`: comments do not nest
abbrev pub IsBlockComment : List ℕ → Type 0
IsBlockComment bytes = (cs : List ℕ) × (bytes ≡ percent ∷ open_brace ∷ cs ++ close_brace ∷ percent ∷ [])
    × ((i : ℕ) → i < length cs → ¬ (ClosesAt (cs ++ close_brace ∷ percent ∷ []) i))

-- With this rest after them, the bytes spell the token (Berry, Language Primer). A word is the longest match: no byte
-- of an identifier follows it. No symbol begins another, so the longest match of a symbol is itself.
abbrev pub IsSpelling : Token → List ℕ → List ℕ → Type 0
IsSpelling (token.Keyword k) bytes rest =
    IsTrue (is_identifier bytes) × (keyword_of bytes ≡ Some k) × StopsAt is_identifier_byte rest
IsSpelling (token.Identifier name) bytes rest =
    IsTrue (is_identifier bytes) × (keyword_of bytes ≡ None) × StopsAt is_identifier_byte rest × (name ≡ bytes)
IsSpelling (token.Symbol s) bytes rest = bytes ≡ symbol_text s

-- With this rest after them, the bytes are such a piece. A line comment goes to the end of its line.
abbrev pub IsPiece : Piece → List ℕ → List ℕ → Type 0
IsPiece piece.Blank bytes rest = (b : ℕ) × (bytes ≡ b ∷ []) × IsTrue (is_blank b)
IsPiece piece.LineComment bytes rest = IsLineComment bytes × StopsAt is_in_line rest
IsPiece piece.BlockComment bytes rest = IsBlockComment bytes
IsPiece (piece.Token t) bytes rest = IsSpelling t bytes rest

-- the first n bytes are such a piece
abbrev pub IsPieceOf : Piece → ℕ → List ℕ → Type 0
IsPieceOf p count rest = (0 < count) × (count ≤ length rest) × IsPiece p (take count rest) (drop count rest)

-- there is a text, and no piece stands first in it
abbrev pub IsFault : List ℕ → Type 0
IsFault rest = (rest ≢ []) × ((p : Piece) (bytes more : List ℕ) → rest ≡ bytes ++ more → ¬ (IsPiece p bytes more))

-- a piece and its bytes
pub record Cut : Type 0 where
  pub is : Piece
  pub bytes : List ℕ

-- The text is these pieces, one after another, and then the rest.
abbrev pub ArePieces : List ℕ → List Cut → List ℕ → Type 0
ArePieces text [] rest = text ≡ rest
ArePieces text (c ∷ cs) rest = (more : List ℕ) × (text ≡ c.bytes ++ more) × IsPiece c.is c.bytes more
    × ArePieces more cs rest

-- the token that a piece is, if it is one, with its span
abbrev pub located : Piece → ℕ → ℕ → List Located
located piece.Blank start count = []
located piece.LineComment start count = []
located piece.BlockComment start count = []
located (piece.Token t) start count = record { token = t; span = record { start = start; end = start + count } } ∷ []

-- the tokens of pieces, of which the first lies at this place
abbrev pub tokens_from : ℕ → List Cut → List Located
tokens_from start [] = []
tokens_from start (c ∷ cs) = located c.is start (length c.bytes) ++ tokens_from (start + length c.bytes) cs

-- these are the tokens of the text, each with its span; with the blanks and comments between them they are the whole
-- text
abbrev pub AreTokens : List ℕ → List Located → Type 0
AreTokens text tokens = (cs : List Cut) × ArePieces text cs [] × (tokens ≡ tokens_from 0 cs)
