-- A text with its tokens, as callers see them (this project's own form).
use Rattle.std.specs.Prelude.{◌≡◌, ◌<◌, ◌≤◌, ◌+◌, ◌^◌, ℕ, List, length, take, drop, Option, Some, None, slice_get}
use Rattle.std.specs.Prelude.{slice_range}
use Rattle.est_text.specs.Pieces.{AreTokens, IsSpelling}
use Rattle.est_text.specs.Places.{place_after}
use Rattle.est_text.specs.declared.place.Place.{Place}
use Rattle.est_text.specs.declared.token.Located.{Located}

-- the bytes of a text, and its tokens with their spans
pub record TokenList : Type 0 where
  pub source : List ℕ
  pub located : List Located

-- these are the tokens of the text, and the place after its last byte has a number
pub record IsTokenList (source : List ℕ) (located : List Located) : Type 0 where
  pub short : length source + 1 < 2 ^ 64
  pub cut : AreTokens source located

-- a token stands within the text, and its slice spells it
pub record StandsIn (source : List ℕ) (l : Located) : Type 0 where
  pub ordered : l.span.start ≤ l.span.end
  pub within : l.span.end ≤ length source
  pub spelt : IsSpelling l.token (slice_range source l.span.start l.span.end) (drop l.span.end source)

-- the place where a token begins, or the place just after the text where there is no token
abbrev pub place_at : List ℕ → Option Located → Place
place_at source (Some l) = place_after (take l.span.start source)
place_at source None = place_after source

-- the place of the token of this number, from 0; past the last, the place just after the text
abbrev pub place_of : TokenList → ℕ → Place
place_of list index = place_at list.source (slice_get list.located index)

-- the bytes are those of the source where the token of this number lies, and they spell it
pub record IsTextOf (list : TokenList) (index : ℕ) (bytes : List ℕ) : Type 0 where
  pub is : Located
  pub stands : slice_get list.located index ≡ Some is
  pub slice : bytes ≡ slice_range list.source is.span.start is.span.end
  pub spelt : IsSpelling is.token bytes (drop is.span.end list.source)
