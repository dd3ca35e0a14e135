-- What a text must be to be a name (this project's own form).
use Rattle.std.specs.Prelude.{ℕ, Bool, false, ◌||◌, ◌&&◌, ◌==◌, nat_le, List, [], ◌∷◌, length}
use Rattle.std.specs.List.{list_all}
use Rattle.std.specs.Char.{is_ascii_alphanumeric}
use Rattle.rbac_policy.specs.declared.names.TheConstants.{NAME_BYTES}

-- the name of a user, a role or a separation set, as its bytes
abbrev pub NameText : Type 0
NameText = List ℕ

-- letters and digits of ASCII, `_` and `-`
abbrev pub is_name_byte : ℕ → Bool
is_name_byte b = is_ascii_alphanumeric b || b == 95 || b == 45

-- at least one byte and at most as many as a name may have, each of them fit for a name
abbrev pub is_name : List ℕ → Bool
is_name [] = false
is_name (b ∷ bs) = nat_le (length (b ∷ bs)) NAME_BYTES && list_all is_name_byte (b ∷ bs)
