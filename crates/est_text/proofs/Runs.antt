-- Pieces one after another.
use Rattle.std.proofs.Common.{◌≡◌, ◌∙◌, ℕ, ◌+◌, List, [], ◌∷◌, ◌++◌, length, take, drop, append_assoc, refl, sym, ap}
use Rattle.std.proofs.Common.{arith}
use Rattle.std.proofs.lemmas.List.{length-append, take-append-drop}
use Rattle.est_text.specs.Pieces.{Cut, ArePieces, IsPieceOf, located, tokens_from}
use Rattle.est_text.specs.declared.piece.Piece.{Piece}
use Rattle.est_text.specs.declared.token.Located.{Located}

pub ArePieces-more : (cs : List Cut) (text rest : List ℕ) (p : Piece) (n : ℕ) → ArePieces text cs rest
    → IsPieceOf p n rest → ArePieces text (cs ++ record { is = p; bytes = take n rest } ∷ []) (drop n rest)
ArePieces-more [] text rest p n h k = (drop n rest, h ∙ sym (take-append-drop n rest), k.2, refl)
ArePieces-more (c ∷ cs) text rest p n h k = (h.0, h.1, h.2, ArePieces-more cs h.0 rest p n h.3 k)

append_none : (xs : List Located) → xs ++ [] ≡ xs
append_none [] = refl
append_none (x ∷ xs) = ap (λ (l : List Located). x ∷ l) (append_none xs)

pub tokens-more : (cs : List Cut) (text rest : List ℕ) (start at : ℕ) (c : Cut) → ArePieces text cs rest
    → at + length rest ≡ start + length text
    → tokens_from start (cs ++ c ∷ []) ≡ tokens_from start cs ++ located c.is at (length c.bytes)
tokens-more [] text rest start at c h e =
    let same : start ≡ at = omega (arith, ap length h) in
    append_none _ ∙ ap (λ (n : ℕ). located c.is n (length c.bytes)) same
tokens-more (d ∷ cs) text rest start at c h e =
    let cut : length text ≡ length d.bytes + length h.0 = ap length h.1 ∙ length-append d.bytes h.0 in
    let later = tokens-more cs h.0 rest (start + length d.bytes) at c h.3 (omega arith) in
    ap (λ (l : List Located). located d.is start (length d.bytes) ++ l) later
    ∙ sym (append_assoc (located d.is start (length d.bytes)) (tokens_from (start + length d.bytes) cs)
    (located c.is at (length c.bytes)))
