-- Where tokens stop being the beginning of a library (this project's own form).
use Rattle.std.specs.Prelude.{◌≡◌, ℕ, ◌≤◌, length, List, [], ◌∷◌, ◌++◌}
use Rattle.est_text.specs.declared.token.Token.{Token}
use Rattle.est_syntax.specs.Tree.{LibraryTree}
use Rattle.est_syntax.specs.Grammar.{spelling, library_depth}

-- these tokens, with some more or none after them, spell a library
abbrev pub Begins : List Token → Type 0
Begins seen = (l : LibraryTree) × (rest : List Token) × (seen ++ rest ≡ spelling l)

-- the same for a library in which at most `limit` units are open at once
abbrev pub BeginsWithin : ℕ → List Token → Type 0
BeginsWithin limit seen = (l : LibraryTree) × (rest : List Token) × (library_depth l ≤ limit)
    × (seen ++ rest ≡ spelling l)

-- this is the number, from 0, of the first token with which the tokens so far begin no library; where the text ends too
-- early it is the number of tokens. No token before it opens a unit too many.
pub record IsSyntaxFault (limit : ℕ) (tokens : List Token) (at : ℕ) : Type 0 where
  pub seen : List Token
  pub rest : List Token
  pub whole : tokens ≡ seen ++ rest
  pub place : at ≡ length seen
  pub begins : BeginsWithin limit seen
  pub stuck : (b : Token) (later : List Token) → rest ≡ b ∷ later → ¬ (Begins (seen ++ b ∷ []))
  pub short : rest ≡ [] → (l : LibraryTree) → ¬ (tokens ≡ spelling l)

-- the token of this number, from 0, opens one unit too many: with it the tokens so far begin a library, but none in
-- which at most `limit` units are open at once; without it they begin such a one
pub record IsTooDeep (limit : ℕ) (tokens : List Token) (at : ℕ) : Type 0 where
  pub seen : List Token
  pub opener : Token
  pub later : List Token
  pub whole : tokens ≡ seen ++ opener ∷ later
  pub place : at ≡ length seen
  pub before : BeginsWithin limit seen
  pub begins : Begins (seen ++ opener ∷ [])
  pub deep : ¬ (BeginsWithin limit (seen ++ opener ∷ []))
