-- Where the tokens of a text lie in it.
use Rattle.std.proofs.Common.{◌≡◌, ◌∙◌, ℕ, zero, suc, ◌+◌, ◌-◌, List, [], ◌∷◌, ◌++◌, length, take, drop, Option, Some}
use Rattle.std.proofs.Common.{None, refl, sym, ap, subst, arith}
use Rattle.std.specs.Prelude.{slice_get, slice_range, IfSome}
use Rattle.std.proofs.lemmas.List.{length-append, drop-drop, drop_at, take_at}
use Rattle.est_text.specs.Pieces.{Cut, ArePieces, AreTokens, IsPiece, IsSpelling, located, tokens_from}
use Rattle.est_text.specs.TokenLists.{TokenList, IsTextOf, StandsIn}
use Rattle.est_text.specs.declared.piece.Piece.{Piece}
use Rattle.est_text.specs.declared.piece.Piece.TheVariants as piece
use Rattle.est_text.specs.declared.token.Token.{Token}
use Rattle.est_text.specs.declared.token.Located.{Located}

token_stands : (source bytes more : List ℕ) (start : ℕ) (t : Token) → drop start source ≡ bytes ++ more
    → start + length (bytes ++ more) ≡ length source → IsSpelling t bytes more
    → StandsIn source (record { token = t; span = record { start = start; end = start + length bytes } })
token_stands source bytes more start t d n h =
    let count : start + length bytes - start ≡ length bytes = omega arith in
    let front : bytes ≡ take (start + length bytes - start) (drop start source) =
    sym (ap (λ (k : ℕ). take k (drop start source)) count ∙ ap (take (length bytes)) d
    ∙ take_at bytes more (length bytes) refl) in
    let back : more ≡ drop (start + length bytes) source = sym
    (sym (drop-drop (length bytes) start source) ∙ ap (drop (length bytes)) d
    ∙ drop_at bytes more (length bytes) refl) in
    record {
      ordered = omega arith;
      within = omega (arith, length-append bytes more);
      spelt = subst (λ (r : List ℕ). IsSpelling t (take (start + length bytes - start) (drop start source)) r) back
          (subst (λ (b : List ℕ). IsSpelling t b more) front h);
    }

piece_stands : (source bytes more : List ℕ) (start : ℕ) (later : List Located) (p : Piece)
    → drop start source ≡ bytes ++ more → start + length (bytes ++ more) ≡ length source → IsPiece p bytes more
    → ((i : ℕ) (l : Located) → slice_get later i ≡ Some l → StandsIn source l) → (i : ℕ) (l : Located)
    → slice_get (located p start (length bytes) ++ later) i ≡ Some l → StandsIn source l
piece_stands source bytes more start later piece.Blank d n h all i l e = all i l e
piece_stands source bytes more start later piece.LineComment d n h all i l e = all i l e
piece_stands source bytes more start later piece.BlockComment d n h all i l e = all i l e
piece_stands source bytes more start later (piece.Token t) d n h all zero l e =
    let own : Located = record { token = t; span = record { start = start; end = start + length bytes } } in
    let same : own ≡ l = cc in
    subst (StandsIn source) same (token_stands source bytes more start t d n h)
piece_stands source bytes more start later (piece.Token t) d n h all (suc i) l e = all i l e

pieces_stand : (source : List ℕ) (cs : List Cut) (rest : List ℕ) (start : ℕ) → drop start source ≡ rest
    → start + length rest ≡ length source → ArePieces rest cs [] → (i : ℕ) (l : Located)
    → slice_get (tokens_from start cs) i ≡ Some l → StandsIn source l
pieces_stand source [] rest start d n h i l e = cc
pieces_stand source (c ∷ cs) rest start d n h i l e =
    let whole : drop start source ≡ c.bytes ++ h.0 = d ∙ h.1 in
    let count : start + length (c.bytes ++ h.0) ≡ length source = ap (λ (r : List ℕ). start + length r) (sym h.1) ∙ n in
    let back : drop (start + length c.bytes) source ≡ h.0 = sym (drop-drop (length c.bytes) start source)
    ∙ ap (drop (length c.bytes)) whole ∙ drop_at c.bytes h.0 (length c.bytes) refl in
    let left : start + length c.bytes + length h.0 ≡ length source = omega (arith, count, length-append c.bytes h.0) in
    piece_stands source c.bytes h.0 start (tokens_from (start + length c.bytes) cs) c.is whole count h.2
    (pieces_stand source cs h.0 (start + length c.bytes) back left h.3) i l e

-- each token of a text stands in it, spelt by its slice
pub tokens_stand : (source : List ℕ) (tokens : List Located) → AreTokens source tokens → (i : ℕ) (l : Located)
    → slice_get tokens i ≡ Some l → StandsIn source l
tokens_stand source tokens h i l e =
    pieces_stand source h.0 source 0 refl (omega arith) h.1 i l
    (ap (λ (ts : List Located). slice_get ts i) (sym h.2) ∙ e)

pub token_if_there : (source : List ℕ) (tokens : List Located) (i : ℕ) (r : Option Located) → AreTokens source tokens
    → r ≡ slice_get tokens i → IfSome r (StandsIn source)
token_if_there source tokens i (Some l) h e = tokens_stand source tokens h i l (sym e)
token_if_there source tokens i None h e = tt

-- the token of a number, its slice and its spelling
pub text_is : (list : TokenList) (i : ℕ) (l : Located) (bytes : List ℕ) → AreTokens list.source list.located
    → slice_get list.located i ≡ Some l → bytes ≡ slice_range list.source l.span.start l.span.end
    → IsTextOf list i bytes
text_is list i l bytes h e b = record {
  is = l;
  stands = e;
  slice = b;
  spelt = subst (λ (s : List ℕ). IsSpelling l.token s (drop l.span.end list.source)) (sym b)
      (tokens_stand list.source list.located h i l e).spelt;
}
