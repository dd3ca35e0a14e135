-- What may be called an identifier (Berry, The Esterel v5 Language Primer; the length is this project's own form), and
-- how one lies in fixed space.
use Rattle.std.specs.Prelude.{◌≡◌, ℕ, ◌-◌, ◌≤◌, List, [], ◌∷◌, ◌++◌, length, take, replicate, Bool, false, ◌&&◌, ◌||◌}
use Rattle.std.specs.Prelude.{◌==◌, nat_le, IsTrue}
use Rattle.std.specs.List.{list_all}
use Rattle.std.specs.Char.{is_ascii_alphanumeric, is_ascii_alphabetic}
use Rattle.est_text.specs.Bytes.{underscore}
use Rattle.est_text.specs.declared.identifier.TheConstants.{IDENTIFIER_BYTES}

-- letters, digits and `_`, of ASCII
abbrev pub is_identifier_byte : ℕ → Bool
is_identifier_byte b = is_ascii_alphanumeric b || b == underscore

-- a letter, and then letters, digits and `_`, at most 48 bytes
abbrev pub is_identifier : List ℕ → Bool
is_identifier [] = false
is_identifier (b ∷ bs) =
    is_ascii_alphabetic b && nat_le (length (b ∷ bs)) IDENTIFIER_BYTES && list_all is_identifier_byte (b ∷ bs)

-- the text is the first `count` of these places; the places after it are zero (this project's own form)
pub record IsFilled (places : ℕ) (bytes : List ℕ) (count : ℕ) : Type 0 where
  pub whole : length bytes ≡ places
  pub fits : count ≤ places
  pub rest : bytes ≡ take count bytes ++ replicate (places - count) 0

-- an identifier, held so in 48 places (this project's own form)
abbrev pub HoldsIdentifier : List ℕ → ℕ → Type 0
HoldsIdentifier bytes count = IsFilled IDENTIFIER_BYTES bytes count × IsTrue (is_identifier (take count bytes))
