-- The tokens of what a reply says.
use Rattle.std.specs.Prelude.{List, [], ◌∷◌, ◌++◌, ℕ, flat_map}
use Rattle.json.specs.Token.{Token, key}
use Rattle.json.specs.Tree.{json_tokens}
use Rattle.serde_json.specs.Data.{Data, Members, member, no_members}
use Rattle.serde_json.specs.Written.{outline}

-- a value under its key
abbrev pub value_tokens : (name : List ℕ) → Data → List Token
value_tokens name value = key name ∷ json_tokens (outline value)

-- members, without the braces around them
abbrev pub member_tokens : Members → List Token
member_tokens no_members = []
member_tokens (member name value others) = value_tokens name value ++ member_tokens others

-- the items of a list, each as this value, without the brackets around them
abbrev pub item_tokens : {A : Type 0} → (A → Data) → List A → List Token
item_tokens value items = flat_map (λ item. json_tokens (outline (value item))) items
