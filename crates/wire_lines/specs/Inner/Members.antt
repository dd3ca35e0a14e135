-- What the next tokens of a line are, member by member. Each function gives a value and the
-- tokens that are left.
use Rattle.std.specs.Prelude.{ℕ, nat_le, length, List, [], ◌∷◌, ◌++◌, codes, Option, Some, None}
use Rattle.std.specs.Prelude.{option_map, option_and_then, if◌then◌else◌}
use Rattle.std.specs.Str.{bytes_eq}
use Rattle.json.specs.Token.{Token, begin_object, end_object, begin_array, end_array, key, string, number}
use Rattle.serde_json.specs.Find.{as_u64}
use Rattle.serde_json.specs.Read.{number_of}
use Rattle.est_text.specs.Identifiers.{is_identifier}
use Rattle.rbac_policy.specs.declared.names.TheConstants.{LISTED_ROLES}
use Rattle.rbac_policy.specs.Names.{is_name}
use Rattle.rbac_policy.specs.Texts.{operation_of, object_of}
use Rattle.rbac_policy.specs.declared.objects.Operation.{Operation}
use Rattle.rbac_policy.specs.declared.objects.Object.{Object}

-- the whole number that a number's text is
unfoldable pub whole_of : List ℕ → Option ℕ
whole_of text = option_and_then as_u64 (number_of text)

-- the name that a text is
abbrev pub name_of : List ℕ → Option (List ℕ)
name_of text = if is_name text then Some text else None

-- the identifier that a text is
abbrev pub identifier_of : List ℕ → Option (List ℕ)
identifier_of text = if is_identifier text then Some text else None

-- what follows this key
unfoldable pub after_key : List ℕ → List Token → Option (List Token)
after_key name [] = None
after_key name (key found ∷ left) = if bytes_eq found name then Some left else None
after_key name (_ ∷ left) = None

-- the text that comes first
abbrev pub front_text : List Token → Option (List ℕ × List Token)
front_text [] = None
front_text (string text ∷ left) = Some (text, left)
front_text (_ ∷ left) = None

-- the text of the number that comes first
abbrev pub front_number : List Token → Option (List ℕ × List Token)
front_number [] = None
front_number (number text ∷ left) = Some (text, left)
front_number (_ ∷ left) = None

-- what follows the bracket that begins an array
abbrev pub begins_array : List Token → Option (List Token)
begins_array [] = None
begins_array (begin_array ∷ left) = Some left
begins_array (_ ∷ left) = None

-- what follows the brace that begins an object
abbrev pub begins_object : List Token → Option (List Token)
begins_object [] = None
begins_object (begin_object ∷ left) = Some left
begins_object (_ ∷ left) = None

-- what a text is, and what is left
abbrev pub parsed : {A : Type 0} → (List ℕ → Option A) → List ℕ × List Token → Option (A × List Token)
parsed parse found = option_map (λ value. (value, found.1)) (parse found.0)

-- the text under this key
unfoldable pub text_after : List ℕ → List Token → Option (List ℕ × List Token)
text_after name tokens = option_and_then front_text (after_key name tokens)

-- the whole number under this key
unfoldable pub number_after : List ℕ → List Token → Option (ℕ × List Token)
number_after name tokens = option_and_then (parsed whole_of) (option_and_then front_number (after_key name tokens))

-- what the text under this key is
unfoldable pub parsed_after : {A : Type 0} → (List ℕ → Option A) → List ℕ → List Token → Option (A × List Token)
parsed_after parse name tokens = option_and_then (parsed parse) (text_after name tokens)

-- what follows the bracket that begins a list under this key
unfoldable pub list_after : List ℕ → List Token → Option (List Token)
list_after name tokens = option_and_then begins_array (after_key name tokens)

-- names at the front
abbrev pub with_front : List (List ℕ) → Option (List (List ℕ) × List Token) → Option (List (List ℕ) × List Token)
with_front front names = option_map (λ found. (front ++ found.0, found.1)) names

-- the names up to the bracket that ends their array
unfoldable pub names_in : List Token → Option (List (List ℕ) × List Token)
names_in [] = None
names_in (end_array ∷ left) = Some ([], left)
names_in (string text ∷ left) = option_and_then (λ name. with_front (name ∷ []) (names_in left)) (name_of text)
names_in (_ ∷ left) = None

-- no more names than a command may list
abbrev pub listed : List (List ℕ) × List Token → Option (List (List ℕ) × List Token)
listed found = if nat_le (length found.0) LISTED_ROLES then Some found else None

-- the roles under the key `roles`
unfoldable pub roles_after : List Token → Option (List (List ℕ) × List Token)
roles_after tokens = option_and_then listed
    (option_and_then names_in (list_after (codes "roles") tokens))

-- nothing is left
abbrev pub no_more : List Token → Option (Unit {0})
no_more [] = Some tt
no_more (t ∷ tokens) = None

-- the object ends here, and the text with it
unfoldable pub ends : List Token → Option (Unit {0})
ends [] = None
ends (end_object ∷ left) = no_more left
ends (_ ∷ left) = None

-- a value that nothing follows but the end of its object
abbrev pub last : {A : Type 0} → Option (A × List Token) → Option A
last found = option_and_then (λ p. option_map (λ _. p.0) (ends p.1)) found

-- the word of an object's command, which is its first member
unfoldable pub word_at : List Token → Option (List ℕ × List Token)
word_at tokens = option_and_then (text_after (codes "cmd")) (begins_object tokens)

-- the names under two keys, the second of which is the last
unfoldable pub two_values : (first second : List ℕ) → List Token → Option (List ℕ × List ℕ)
two_values first second tokens =
    option_and_then (λ one. option_map (λ other. (one.0, other)) (last (parsed_after name_of second one.1)))
    (parsed_after name_of first tokens)

-- an object, an operation, and a role, which is the last
unfoldable pub permission_values : List Token → Option (Object × Operation × List ℕ)
permission_values tokens =
    option_and_then (λ on. option_and_then (λ operation. option_map (λ role. (on.0, operation.0, role))
    (last (parsed_after name_of (codes "role") operation.1)))
    (parsed_after operation_of (codes "op") on.1)) (parsed_after object_of (codes "object") tokens)
