-- What a writer was given of a text (this project's own form).
use Rattle.std.specs.Prelude.{◌≡◌, ℕ, List, ◌++◌, Option}
use Rattle.std.specs.Io.KnownBytes.{Appends}

-- known bytes grew by the text up to what is left of it
pub record WritesUpTo (before after : Option (List ℕ)) (text left : List ℕ) : Type 0 where
  pub front : List ℕ
  pub whole : text ≡ front ++ left
  pub written : Appends before after front

-- known bytes grew by a front of the text
abbrev pub WritesFront : (before after : Option (List ℕ)) → (text : List ℕ) → Type 0
WritesFront before after text = (left : List ℕ) × WritesUpTo before after text left
