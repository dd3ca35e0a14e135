-- A text can be cut in one way.
use Rattle.std.proofs.Common.{◌≡◌, ◌∙◌, ℕ, suc, ◌+◌, ◌<◌, List, [], ◌∷◌, ◌++◌, length, true, slice_index, append_assoc}
use Rattle.std.proofs.Common.{refl, sym, ap, subst, arith, Some, None}
use Rattle.std.proofs.lemmas.List.{append_cancel_left}
use Rattle.std.specs.List.{list_all}
use Rattle.est_text.proofs.Fronts.{same_run, all_in_word, brace_in_line}
use Rattle.est_text.proofs.Heads.{AtBlank, AtPercent, head_of_piece, piece_starts, same_heads, symbol_with}
use Rattle.est_text.proofs.Heads.{symbol_begins}
use Rattle.est_text.specs.Identifiers.{is_identifier, is_identifier_byte}
use Rattle.est_text.specs.Keywords.{keyword_of}
use Rattle.est_text.specs.Lexing.{IsFirstFault}
use Rattle.est_text.specs.Pieces.{is_in_line, StopsAt, ClosesAt, IsBlockComment, IsLineComment, IsSpelling, IsPiece}
use Rattle.est_text.specs.Pieces.{Cut, ArePieces, AreTokens, tokens_from, symbol_text}
use Rattle.est_text.specs.declared.keyword.Keyword.{Keyword}
use Rattle.est_text.specs.declared.token.Symbol.{Symbol}
use Rattle.est_text.specs.declared.token.Token.{Token}
use Rattle.est_text.specs.declared.token.Token.TheVariants as token
use Rattle.est_text.specs.declared.token.Located.{Located}
use Rattle.est_text.specs.declared.piece.Piece.{Piece}
use Rattle.est_text.specs.declared.piece.Piece.TheVariants as piece

-- ---- block comments

-- no `}%` begins within these bytes, where one follows them
abbrev NoClose : List ℕ → Type 0
NoClose cs = (i : ℕ) → i < length cs → ¬ (ClosesAt (cs ++ 125 ∷ 37 ∷ []) i)

later_none : (c : ℕ) (cs : List ℕ) → NoClose (c ∷ cs) → NoClose cs
later_none c cs h i l k =
    let next : suc (i + 1) ≡ suc i + 1 = omega arith in
    h (suc i) (omega arith) (k.0, ap (λ (n : ℕ). slice_index (c ∷ (cs ++ 125 ∷ 37 ∷ [])) n) (sym next) ∙ k.1)

first_is : (a : ℕ) (more : List ℕ) (b : ℕ) (bs : List ℕ) → a ∷ more ≡ b ∷ bs → a ≡ b
first_is a more b bs e = cc

-- bytes without a close do not begin with one
closes_first : (d : ℕ) (ds m n : List ℕ) → NoClose (d ∷ ds) → 125 ∷ 37 ∷ m ≡ d ∷ (ds ++ 125 ∷ 37 ∷ n) → ⊥
closes_first d [] m n h e =
    let wrong : 37 ∷ m ≡ 125 ∷ 37 ∷ n = cc in
    omega (arith, first_is 37 m 125 (37 ∷ n) wrong)
closes_first d (x ∷ xs) m n h e =
    let first : d ≡ 125 = cc in
    let second : x ≡ 37 = cc in
    h 0 (omega arith) (first, second)

same_comment : (cs ds m n : List ℕ) → NoClose cs → NoClose ds → cs ++ 125 ∷ 37 ∷ m ≡ ds ++ 125 ∷ 37 ∷ n → cs ≡ ds
same_comment [] [] m n h k e = refl
same_comment [] (d ∷ ds) m n h k e = absurd (closes_first d ds m n k e)
same_comment (c ∷ cs) [] m n h k e = absurd (closes_first c cs n m h (sym e))
same_comment (c ∷ cs) (d ∷ ds) m n h k e =
    let same : c ≡ d = cc in
    let rest : cs ++ 125 ∷ 37 ∷ m ≡ ds ++ 125 ∷ 37 ∷ n = cc in
    let more = same_comment cs ds m n (later_none c cs h) (later_none d ds k) rest in
    cc

same_block : (bytes rest others more : List ℕ) → IsBlockComment bytes → IsBlockComment others
    → bytes ++ rest ≡ others ++ more → bytes ≡ others
same_block bytes rest others more h k e =
    let whole : 37 ∷ 123 ∷ ((h.0 ++ 125 ∷ 37 ∷ []) ++ rest) ≡ 37 ∷ 123 ∷ ((k.0 ++ 125 ∷ 37 ∷ []) ++ more) =
    sym (ap (λ (l : List ℕ). l ++ rest) h.1) ∙ e ∙ ap (λ (l : List ℕ). l ++ more) k.1 in
    let inner : (h.0 ++ 125 ∷ 37 ∷ []) ++ rest ≡ (k.0 ++ 125 ∷ 37 ∷ []) ++ more = cc in
    let one = same_comment h.0 k.0 rest more h.2 k.2
    (sym (append_assoc h.0 (125 ∷ 37 ∷ []) rest) ∙ inner ∙ append_assoc k.0 (125 ∷ 37 ∷ []) more) in
    h.1 ∙ ap (λ (l : List ℕ). 37 ∷ 123 ∷ (l ++ 125 ∷ 37 ∷ [])) one ∙ sym k.1

-- ---- line comments

line_within : (bytes : List ℕ) → IsLineComment bytes → list_all is_in_line bytes ≡ true
line_within bytes h = subst (λ (l : List ℕ). list_all is_in_line l ≡ true) (sym h.1) h.3

same_line : (bytes rest others more : List ℕ) → IsLineComment bytes → StopsAt is_in_line rest → IsLineComment others
    → StopsAt is_in_line more → bytes ++ rest ≡ others ++ more → bytes ≡ others
same_line bytes rest others more h s k t e =
    same_run is_in_line bytes others rest more (line_within bytes h) (line_within others k) s t e

-- a comment is of one kind
line_or_block : (bytes rest others more : List ℕ) → IsLineComment bytes → StopsAt is_in_line rest
    → IsBlockComment others → bytes ++ rest ≡ others ++ more → ⊥
line_or_block bytes rest others more h s k e =
    let whole : 37 ∷ 123 ∷ ((k.0 ++ 125 ∷ 37 ∷ []) ++ more) ≡ 37 ∷ (h.0 ++ rest) =
    sym (ap (λ (l : List ℕ). l ++ more) k.1) ∙ sym e ∙ ap (λ (l : List ℕ). l ++ rest) h.1 in
    let inner : 123 ∷ ((k.0 ++ 125 ∷ 37 ∷ []) ++ more) ≡ h.0 ++ rest = cc in
    brace_in_line h.0 rest ((k.0 ++ 125 ∷ 37 ∷ []) ++ more) inner h.2 s

-- ---- words and symbols

same_word : (bytes rest others more : List ℕ) → is_identifier bytes ≡ true → StopsAt is_identifier_byte rest
    → is_identifier others ≡ true → StopsAt is_identifier_byte more → bytes ++ rest ≡ others ++ more → bytes ≡ others
same_word bytes rest others more h s k t e =
    same_run is_identifier_byte bytes others rest more (all_in_word bytes h) (all_in_word others k) s t e

same_symbol : (s t : Symbol) (bytes rest others more : List ℕ) → bytes ≡ symbol_text s → others ≡ symbol_text t
    → bytes ++ rest ≡ others ++ more → s ≡ t
same_symbol s t bytes rest others more h k e =
    let b = symbol_begins s in
    let c = symbol_begins t in
    let whole : b.byte ∷ (b.more ++ rest) ≡ c.byte ∷ (c.more ++ more) =
    sym (ap (λ (l : List ℕ). l ++ rest) (h ∙ b.whole)) ∙ e ∙ ap (λ (l : List ℕ). l ++ more) (k ∙ c.whole) in
    let same : b.byte ≡ c.byte = cc in
    let some : Some s ≡ Some t = sym b.only ∙ ap symbol_with same ∙ c.only in
    cc

-- ---- pieces

same_keyword : (j k : Keyword) (bytes others : List ℕ) → keyword_of bytes ≡ Some j → keyword_of others ≡ Some k
    → bytes ≡ others → j ≡ k
same_keyword j k bytes others h g e = let some : Some j ≡ Some k = sym h ∙ ap keyword_of e ∙ g in cc

no_keyword : (k : Keyword) (bytes others : List ℕ) → keyword_of bytes ≡ Some k → keyword_of others ≡ None
    → bytes ≡ others → ⊥
no_keyword k bytes others h g e = let some : Some k ≡ None = sym h ∙ ap keyword_of e ∙ g in cc

one_token : (t u : Token) (bytes rest others more : List ℕ)
    → head_of_piece (piece.Token t) ≡ head_of_piece (piece.Token u) → IsSpelling t bytes rest
    → IsSpelling u others more → bytes ++ rest ≡ others ++ more → (t ≡ u) × (bytes ≡ others)
one_token (token.Keyword i) (token.Keyword j) bytes rest others more a h k e =
    let same = same_word bytes rest others more h.0 h.2 k.0 k.2 e in
    (ap token.Keyword (same_keyword i j bytes others h.1 k.1 same), same)
one_token (token.Keyword i) (token.Identifier name) bytes rest others more a h k e =
    absurd (no_keyword i bytes others h.1 k.1 (same_word bytes rest others more h.0 h.2 k.0 k.2 e))
one_token (token.Identifier name) (token.Keyword j) bytes rest others more a h k e =
    absurd (no_keyword j others bytes k.1 h.1 (sym (same_word bytes rest others more h.0 h.2 k.0 k.2 e)))
one_token (token.Identifier name) (token.Identifier word) bytes rest others more a h k e =
    let same = same_word bytes rest others more h.0 h.2 k.0 k.2 e in (ap token.Identifier (h.3 ∙ same ∙ sym k.3), same)
one_token (token.Symbol s) (token.Symbol t) bytes rest others more a h k e =
    let same = same_symbol s t bytes rest others more h k e in (ap token.Symbol same, h ∙ ap symbol_text same ∙ sym k)
one_token t u bytes rest others more a h k e = cc

-- a blank or a comment
abbrev IsGap : Piece → Type 0
IsGap piece.Blank = Unit {0}
IsGap piece.LineComment = Unit {0}
IsGap piece.BlockComment = Unit {0}
IsGap (piece.Token t) = ⊥

blank_head : (t : Token) → AtBlank ≡ head_of_piece (piece.Token t) → ⊥
blank_head (token.Keyword k) e = cc
blank_head (token.Identifier name) e = cc
blank_head (token.Symbol s) e = cc

percent_head : (t : Token) → AtPercent ≡ head_of_piece (piece.Token t) → ⊥
percent_head (token.Keyword k) e = cc
percent_head (token.Identifier name) e = cc
percent_head (token.Symbol s) e = cc

-- a token does not begin as a blank or a comment does
no_token : (t : Token) (p : Piece) → IsGap p → head_of_piece p ≡ head_of_piece (piece.Token t) → ⊥
no_token t piece.Blank g e = blank_head t e
no_token t piece.LineComment g e = percent_head t e
no_token t piece.BlockComment g e = percent_head t e
no_token t (piece.Token u) g e = g

one_kind : (p q : Piece) (bytes rest others more : List ℕ) → head_of_piece p ≡ head_of_piece q → IsPiece p bytes rest
    → IsPiece q others more → bytes ++ rest ≡ others ++ more → (p ≡ q) × (bytes ≡ others)
one_kind piece.Blank piece.Blank bytes rest others more a h k e =
    let whole : h.0 ∷ rest ≡ k.0 ∷ more = sym (ap (λ (l : List ℕ). l ++ rest) h.1) ∙ e
    ∙ ap (λ (l : List ℕ). l ++ more) k.1 in
    (refl, h.1 ∙ ap (λ (b : ℕ). b ∷ []) (first_is h.0 rest k.0 more whole) ∙ sym k.1)
one_kind piece.LineComment piece.LineComment bytes rest others more a h k e =
    (refl, same_line bytes rest others more h.0 h.1 k.0 k.1 e)
one_kind piece.LineComment piece.BlockComment bytes rest others more a h k e =
    absurd (line_or_block bytes rest others more h.0 h.1 k e)
one_kind piece.BlockComment piece.LineComment bytes rest others more a h k e =
    absurd (line_or_block others more bytes rest k.0 k.1 h (sym e))
one_kind piece.BlockComment piece.BlockComment bytes rest others more a h k e =
    (refl, same_block bytes rest others more h k e)
one_kind (piece.Token t) (piece.Token u) bytes rest others more a h k e =
    let one = one_token t u bytes rest others more a h k e in (ap piece.Token one.0, one.1)
one_kind (piece.Token t) q bytes rest others more a h k e = absurd (no_token t q tt (sym a))
one_kind p (piece.Token u) bytes rest others more a h k e = absurd (no_token u p tt a)
one_kind p q bytes rest others more a h k e = cc

-- two pieces at the front of one text are one piece
pub one_piece : (p q : Piece) (bytes rest others more : List ℕ) → IsPiece p bytes rest → IsPiece q others more
    → bytes ++ rest ≡ others ++ more → (p ≡ q) × (bytes ≡ others)
one_piece p q bytes rest others more h k e =
    one_kind p q bytes rest others more (same_heads p q bytes rest others more h k e) h k e

-- ---- cuts

-- no piece stands first
abbrev Ends : List ℕ → Type 0
Ends rest = (p : Piece) (bytes more : List ℕ) → rest ≡ bytes ++ more → ¬ (IsPiece p bytes more)

nothing_ends : Ends []
nothing_ends p bytes more e h =
    let s = piece_starts p bytes more h in
    let all : [] ≡ s.byte ∷ (s.more ++ more) = e ∙ ap (λ (l : List ℕ). l ++ more) s.whole in
    cc

one_way : (cs ds : List Cut) (text rest other : List ℕ) → ArePieces text cs rest → Ends rest
    → ArePieces text ds other → Ends other → (cs ≡ ds) × (rest ≡ other)
one_way [] [] text rest other h s k t = (refl, sym h ∙ k)
one_way [] (d ∷ ds) text rest other h s k t = absurd (s d.is d.bytes k.0 (sym h ∙ k.1) k.2)
one_way (c ∷ cs) [] text rest other h s k t = absurd (t c.is c.bytes h.0 (sym k ∙ h.1) h.2)
one_way (c ∷ cs) (d ∷ ds) text rest other h s k t =
    let e : c.bytes ++ h.0 ≡ d.bytes ++ k.0 = sym h.1 ∙ k.1 in
    let one = one_piece c.is d.is c.bytes h.0 d.bytes k.0 h.2 k.2 e in
    let back : h.0 ≡ k.0 = append_cancel_left d.bytes h.0 k.0 (sym (ap (λ (l : List ℕ). l ++ h.0) one.1) ∙ e) in
    let later = one_way cs ds h.0 rest other h.3 s (subst (λ (l : List ℕ). ArePieces l ds other) (sym back) k.3) t in
    (ap (λ (x : Cut). x ∷ cs) (same_cut c d one.0 one.1) ∙ ap (λ (l : List Cut). d ∷ l) later.0, later.1)
  where
    same_cut : (c d : Cut) → c.is ≡ d.is → c.bytes ≡ d.bytes → c ≡ d
    same_cut c d a b =
        let first : Cut = record { is = d.is; bytes = c.bytes } in
        let one : c ≡ first = ap (λ (p : Piece). record { is = p; bytes = c.bytes }) a in
        let two : first ≡ d = ap (λ (l : List ℕ). record { is = d.is; bytes = l }) b in
        one ∙ two

pub cuts_are_one : (text : List ℕ) (cs ds : List Cut) → ArePieces text cs [] → ArePieces text ds [] → cs ≡ ds
cuts_are_one text cs ds h k = (one_way cs ds text [] [] h nothing_ends k nothing_ends).0

pub tokens_are_one : (text : List ℕ) (tokens others : List Located) → AreTokens text tokens → AreTokens text others
    → tokens ≡ others
tokens_are_one text tokens others h k = h.2 ∙ ap (tokens_from 0) (cuts_are_one text h.0 k.0 h.1 k.1) ∙ sym k.2

pub faults_are_one : (text : List ℕ) (at other : ℕ) → IsFirstFault text at → IsFirstFault text other → at ≡ other
faults_are_one text at other h k =
    let same = one_way h.0 k.0 text h.1 k.1 h.2 h.3.1 k.2 k.3.1 in
    omega (arith, ap length same.1, h.4, k.4)

pub tokens_or_fault : (text : List ℕ) (tokens : List Located) (at : ℕ) → AreTokens text tokens → IsFirstFault text at
    → ⊥
tokens_or_fault text tokens at h k =
    let same = one_way h.0 k.0 text [] k.1 h.1 nothing_ends k.2 k.3.1 in
    k.3.0 (sym same.1)
