-- Why tokens have no tree, by the place (this project's own form).
use Rattle.std.specs.Prelude.{◌≡◌, ℕ}
use Rattle.est_text.specs.TokenLists.{TokenList, place_of}
use Rattle.est_syntax.specs.Grammar.{tokens_of}
use Rattle.est_syntax.specs.Faults.{IsSyntaxFault, IsTooDeep}
use Rattle.est_syntax.specs.declared.parse.ParseFault.{ParseFault}
use Rattle.est_syntax.specs.declared.parse.ParseFault.TheVariants.{Syntax, TooLarge, Memory}

-- the place is that of the first token with which the tokens so far begin no library, or of the token that opens a unit
-- too many; past the last token it is the place just after the text
abbrev pub IsParseFault : ℕ → TokenList → ParseFault → Type 0
IsParseFault limit tokens (Syntax place) =
    (at : ℕ) × (place ≡ place_of tokens at) × IsSyntaxFault limit (tokens_of tokens.located) at
IsParseFault limit tokens (TooLarge place) =
    (at : ℕ) × (place ≡ place_of tokens at) × IsTooDeep limit (tokens_of tokens.located) at
IsParseFault limit tokens Memory = Unit {0}
