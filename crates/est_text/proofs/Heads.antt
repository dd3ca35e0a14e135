-- The first byte of a piece tells its kind.
use Rattle.std.proofs.Common.{◌≡◌, ◌∙◌, ℕ, List, [], ◌∷◌, ◌++◌, Bool, true, false, ◌&&◌, refl, sym, ap, arith, Option}
use Rattle.std.proofs.Common.{Some, None, if◌then◌else◌}
use Rattle.std.proofs.lemmas.Bool.Decides.{nat_tests}
use Rattle.std.specs.Bool.{◌==◌}
use Rattle.std.specs.Char.{is_ascii_alphabetic}
use Rattle.est_text.specs.Identifiers.{is_identifier}
use Rattle.est_text.specs.Pieces.{is_blank, IsPiece, symbol_text}
use Rattle.est_text.specs.declared.token.Symbol.{Symbol}
use Rattle.est_text.specs.declared.token.Symbol.TheVariants as symbol
use Rattle.est_text.specs.declared.token.Token.TheVariants as token
use Rattle.est_text.specs.declared.piece.Piece.{Piece}
use Rattle.est_text.specs.declared.piece.Piece.TheVariants as piece

-- what a piece may begin with
pub data Head : Type 0 where
  AtBlank : Head
  AtPercent : Head
  AtLetter : Head
  AtSign : Head

-- by three tests of a byte: is it a blank, a percent sign, a letter?
abbrev pub head_by : Bool → Bool → Bool → Head
head_by true percent letter = AtBlank
head_by false true letter = AtPercent
head_by false false true = AtLetter
head_by false false false = AtSign

abbrev pub head_of : ℕ → Head
head_of b = head_by (is_blank b) (b == 37) (is_ascii_alphabetic b)

abbrev pub head_of_piece : Piece → Head
head_of_piece piece.Blank = AtBlank
head_of_piece piece.LineComment = AtPercent
head_of_piece piece.BlockComment = AtPercent
head_of_piece (piece.Token (token.Keyword k)) = AtLetter
head_of_piece (piece.Token (token.Identifier name)) = AtLetter
head_of_piece (piece.Token (token.Symbol s)) = AtSign

pub both : (a b : Bool) → (a && b) ≡ true → (a ≡ true) × (b ≡ true)
both true b h = (refl, h)
both false b h = cc

letter_no_blank : (b : ℕ) → is_ascii_alphabetic b ≡ true → is_blank b ≡ false
letter_no_blank b h = grind (arith, nat_tests)

letter_no_percent : (b : ℕ) → is_ascii_alphabetic b ≡ true → (b == 37) ≡ false
letter_no_percent b h = grind (arith, nat_tests)

pub head_of_letter : (b : ℕ) → is_ascii_alphabetic b ≡ true → head_of b ≡ AtLetter
head_of_letter b h =
    ap (λ (t : Bool). head_by t (b == 37) (is_ascii_alphabetic b)) (letter_no_blank b h)
    ∙ ap (λ (t : Bool). head_by false t (is_ascii_alphabetic b)) (letter_no_percent b h)
    ∙ ap (head_by false false) h

-- the symbol that begins with a byte
abbrev pub symbol_with : ℕ → Option Symbol
symbol_with b =
    if b == 58 then Some symbol.Colon
    else (if b == 59 then Some symbol.Semicolon
    else (if b == 44 then Some symbol.Comma
    else (if b == 47 then Some symbol.Slash
    else (if b == 91 then Some symbol.OpenBracket
    else (if b == 93 then Some symbol.CloseBracket
    else (if b == 40 then Some symbol.OpenParenthesis
    else (if b == 41 then Some symbol.CloseParenthesis
    else (if b == 124 then Some symbol.Parallel
    else (if b == 35 then Some symbol.Hash
    else (if b == 61 then Some symbol.Implies
    else None))))))))))

-- how a symbol begins
pub record Begins (s : Symbol) : Type 0 where
  pub byte : ℕ
  pub more : List ℕ
  pub whole : symbol_text s ≡ byte ∷ more
  pub head : head_of byte ≡ AtSign
  pub only : symbol_with byte ≡ Some s

pub symbol_begins : (s : Symbol) → Begins s
symbol_begins symbol.Colon = record { byte = 58; more = []; whole = refl; head = refl; only = refl }
symbol_begins symbol.Semicolon = record { byte = 59; more = []; whole = refl; head = refl; only = refl }
symbol_begins symbol.Comma = record { byte = 44; more = []; whole = refl; head = refl; only = refl }
symbol_begins symbol.Slash = record { byte = 47; more = []; whole = refl; head = refl; only = refl }
symbol_begins symbol.OpenBracket = record { byte = 91; more = []; whole = refl; head = refl; only = refl }
symbol_begins symbol.CloseBracket = record { byte = 93; more = []; whole = refl; head = refl; only = refl }
symbol_begins symbol.OpenParenthesis = record { byte = 40; more = []; whole = refl; head = refl; only = refl }
symbol_begins symbol.CloseParenthesis = record { byte = 41; more = []; whole = refl; head = refl; only = refl }
symbol_begins symbol.Parallel = record { byte = 124; more = 124 ∷ []; whole = refl; head = refl; only = refl }
symbol_begins symbol.Hash = record { byte = 35; more = []; whole = refl; head = refl; only = refl }
symbol_begins symbol.Implies = record { byte = 61; more = 62 ∷ []; whole = refl; head = refl; only = refl }

-- a piece's first byte, and what it tells
pub record StartsWith (p : Piece) (bytes : List ℕ) : Type 0 where
  pub byte : ℕ
  pub more : List ℕ
  pub whole : bytes ≡ byte ∷ more
  pub head : head_of byte ≡ head_of_piece p

first_letter : (b : ℕ) (bs : List ℕ) → is_identifier (b ∷ bs) ≡ true → is_ascii_alphabetic b ≡ true
first_letter b bs h = (both (is_ascii_alphabetic b) _ (both _ _ h).0).0

word_starts : (p : Piece) (bytes : List ℕ) → is_identifier bytes ≡ true → head_of_piece p ≡ AtLetter
    → StartsWith p bytes
word_starts p [] h e = cc
word_starts p (b ∷ bs) h e =
    record { byte = b; more = bs; whole = refl; head = head_of_letter b (first_letter b bs h) ∙ sym e }

pub piece_starts : (p : Piece) (bytes rest : List ℕ) → IsPiece p bytes rest → StartsWith p bytes
piece_starts piece.Blank bytes rest h = record {
  byte = h.0;
  more = [];
  whole = h.1;
  head = ap (λ (t : Bool). head_by t (h.0 == 37) (is_ascii_alphabetic h.0)) h.2;
}
piece_starts piece.LineComment bytes rest h = record { byte = 37; more = h.0.0; whole = h.0.1; head = refl }
piece_starts piece.BlockComment bytes rest h =
    record { byte = 37; more = 123 ∷ (h.0 ++ 125 ∷ 37 ∷ []); whole = h.1; head = refl }
piece_starts (piece.Token (token.Keyword k)) bytes rest h = word_starts (piece.Token (token.Keyword k)) bytes h.0 refl
piece_starts (piece.Token (token.Identifier name)) bytes rest h =
    word_starts (piece.Token (token.Identifier name)) bytes h.0 refl
piece_starts (piece.Token (token.Symbol s)) bytes rest h = let b = symbol_begins s in
    record { byte = b.byte; more = b.more; whole = h ∙ b.whole; head = b.head }

-- a piece begins as the text does at whose front it stands
pub same_head : (b : ℕ) (bs : List ℕ) (p : Piece) (bytes rest : List ℕ) → IsPiece p bytes rest
    → b ∷ bs ≡ bytes ++ rest → head_of b ≡ head_of_piece p
same_head b bs p bytes rest h e =
    let s = piece_starts p bytes rest h in
    let all : b ∷ bs ≡ s.byte ∷ (s.more ++ rest) = e ∙ ap (λ (l : List ℕ). l ++ rest) s.whole in
    let same : b ≡ s.byte = cc in
    ap head_of same ∙ s.head

-- two pieces at the front of one text begin alike
pub same_heads : (p q : Piece) (bytes rest others more : List ℕ) → IsPiece p bytes rest → IsPiece q others more
    → bytes ++ rest ≡ others ++ more → head_of_piece p ≡ head_of_piece q
same_heads p q bytes rest others more h k e =
    let s = piece_starts p bytes rest h in
    sym s.head ∙ same_head s.byte (s.more ++ rest) q others more k (sym (ap (λ (l : List ℕ). l ++ rest) s.whole) ∙ e)
