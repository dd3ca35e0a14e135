-- Parts of a line that is being written.
use Rattle.std.specs.Prelude.{ℕ, List, drop}
use Rattle.json.specs.Token.{Token}
use Rattle.serde_json.specs.Data.{Data, object, Members, no_members}
use Rattle.est_kernel.specs.declared.interface.Declaration.{Declaration}
use Rattle.wire_lines.specs.Inner.ReplyTokens.{item_tokens}
use Rattle.lab_lines.specs.FoundJson.{names_from}

-- the members of an object
abbrev pub members_in : Data → Members
members_in (object members) = members
members_in _ = no_members

-- the names of those signals, from this place on, that are in the set, as items of a list
abbrev pub names_left : List Declaration → (signals place : ℕ) → List Token
names_left interface signals place = item_tokens (λ name. name) (names_from place (drop place interface) signals)
