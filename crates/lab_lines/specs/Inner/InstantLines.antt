-- What the tokens of a line of `instant` or `try` are.
use Rattle.std.specs.Prelude.{ℕ, List, [], ◌∷◌, codes, Option, None, Some, option_and_then}
use Rattle.json.specs.Token.{Token, end_array, string}
use Rattle.wire_lines.specs.Inner.Members.{last, list_after, with_front}

-- the texts up to the bracket that ends their array, and what is left
unfoldable pub texts_in : List Token → Option (List (List ℕ) × List Token)
texts_in [] = None
texts_in (end_array ∷ left) = Some ([], left)
texts_in (string text ∷ left) = with_front (text ∷ []) (texts_in left)
texts_in (_ ∷ left) = None

-- the list of texts under the key `inputs`, which nothing follows but the end of its object
unfoldable pub inputs_at : List Token → Option (List (List ℕ))
inputs_at tokens = last (option_and_then texts_in (list_after (codes "inputs") tokens))
