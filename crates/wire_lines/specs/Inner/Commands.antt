-- The commands: for each word the shape of the members after it, and what is made of their values.
use Rattle.std.specs.Prelude.{ℕ, List, [], ◌∷◌, codes, Option, None, option_map, option_and_then}
use Rattle.std.specs.Prelude.{if◌then◌else◌}
use Rattle.std.specs.Str.{bytes_eq}
use Rattle.json.specs.Token.{Token}
use Rattle.rbac_policy.specs.Texts.{operation_of, object_of}
use Rattle.rbac_policy.specs.declared.objects.Operation.{Operation}
use Rattle.rbac_policy.specs.declared.objects.Object.{Object}
use Rattle.rbac_policy.specs.declared.commands.AdminCommand.{AdminCommand}
use Rattle.rbac_policy.specs.declared.commands.AdminCommand.TheVariants.{AddUser, DeleteUser, AddRole, DeleteRole}
use Rattle.rbac_policy.specs.declared.commands.AdminCommand.TheVariants.{AssignUser, DeassignUser, GrantPermission}
use Rattle.rbac_policy.specs.declared.commands.AdminCommand.TheVariants.{RevokePermission, AddInheritance}
use Rattle.rbac_policy.specs.declared.commands.AdminCommand.TheVariants.{DeleteInheritance, CreateDsdSet, DeleteDsdSet}
use Rattle.rbac_policy.specs.declared.commands.AdminCommand.TheVariants.{CreateSession, DeleteSession, AddActiveRole}
use Rattle.rbac_policy.specs.declared.commands.AdminCommand.TheVariants.{DropActiveRole}
use Rattle.reactor_core.specs.declared.entry.Move.TheVariants.{Load, Offer, Discard, Step, Unload}
use Rattle.reactor_core.specs.Answers.{load_of}
use Rattle.access_core.specs.declared.command.SlotCommand.{SlotCommand}
use Rattle.access_core.specs.declared.command.SlotCommand.TheVariants.{Move, Look, Audit}
use Rattle.wire_lines.specs.Inner.Members.{name_of, identifier_of, parsed_after, text_after, number_after, roles_after}
use Rattle.wire_lines.specs.Inner.Members.{two_values, permission_values, word_at, ends, last}
use Rattle.wire_lines.specs.declared.request.Request.{Request}
use Rattle.wire_lines.specs.declared.request.Request.TheVariants.{Policy, Slot, Check}

-- the shapes of the members after a word, in the order of their keys, each with what is made of their values
pub data Shape : Type 0 where
  nothing : Request → Shape
  one_name : (key : List ℕ) → (List ℕ → AdminCommand) → Shape
  two_names : (first second : List ℕ) → (List ℕ → List ℕ → AdminCommand) → Shape
  permission : (Object → Operation → List ℕ → AdminCommand) → Shape
  roles_user : Shape
  count_name_roles : Shape
  slot_alone : SlotCommand → Shape
  main_slot_text : Shape
  signal_slot : Shape
  instant_slot : Shape
  object_operation : Shape

-- the request of the members of this shape
unfoldable pub request_of : Shape → List Token → Option Request
request_of (nothing request) tokens = option_map (λ _. request) (ends tokens)
request_of (one_name key make) tokens = option_map (λ name. Policy (make name)) (last (parsed_after name_of key tokens))
request_of (two_names first second make) tokens =
    option_map (λ p. Policy (make p.0 p.1)) (two_values first second tokens)
request_of (permission make) tokens = option_map (λ p. Policy (make p.0 p.1 p.2)) (permission_values tokens)
request_of roles_user tokens =
    option_and_then (λ roles. option_map (λ user. Policy (CreateSession user roles.0))
    (last (parsed_after name_of (codes "user") roles.1))) (roles_after tokens)
request_of count_name_roles tokens =
    option_and_then (λ count. option_and_then
    (λ set. option_map (λ roles. Policy (CreateDsdSet set.0 count.0 roles)) (last (roles_after set.1)))
    (parsed_after name_of (codes "name") count.1)) (number_after (codes "count") tokens)
request_of (slot_alone command) tokens =
    option_map (λ slot. Slot slot command) (last (number_after (codes "slot") tokens))
request_of main_slot_text tokens =
    option_and_then (λ main. option_and_then
    (λ slot. option_map (λ text. Slot slot.0 (Move (Load (load_of main.0 text))))
    (last (text_after (codes "text") slot.1)))
    (number_after (codes "slot") main.1)) (parsed_after identifier_of (codes "main") tokens)
request_of signal_slot tokens =
    option_and_then (λ signal. option_map (λ slot. Slot slot (Move (Offer signal.0)))
    (last (number_after (codes "slot") signal.1))) (parsed_after identifier_of (codes "signal") tokens)
request_of instant_slot tokens =
    option_and_then (λ instant. option_map (λ slot. Slot slot (Look instant.0))
    (last (number_after (codes "slot") instant.1))) (number_after (codes "instant") tokens)
request_of object_operation tokens =
    option_and_then (λ on. option_map (λ operation. Check operation on.0)
    (last (parsed_after operation_of (codes "op") on.1))) (parsed_after object_of (codes "object") tokens)

-- a command's word and the shape of what follows it
abbrev pub Row : Type 0
Row = List ℕ × Shape

-- the commands on assignments, grants and edges: the relations of the policy, which are not those of a module
unfoldable pub relation_rows : List Row
relation_rows =
    (codes "assign", two_names (codes "role") (codes "user") (λ role user. AssignUser user role))
    ∷ (codes "deassign", two_names (codes "role") (codes "user") (λ role user. DeassignUser user role))
    ∷ (codes "inherit", two_names (codes "junior") (codes "senior") (λ junior senior. AddInheritance senior junior))
    ∷ (
      codes "disinherit",
      two_names (codes "junior") (codes "senior")
          (λ junior senior. DeleteInheritance senior junior),
    )
    ∷ (codes "grant", permission (λ on operation role. GrantPermission role operation on))
    ∷ (codes "revoke", permission (λ on operation role. RevokePermission role operation on))
    ∷ []

-- the commands that add or delete a user or a role, and those on assignments, grants and edges
unfoldable pub user_or_role_rows : List Row
user_or_role_rows =
    (codes "adduser", one_name (codes "user") AddUser) ∷ (codes "deluser", one_name (codes "user") DeleteUser)
    ∷ (codes "addrole", one_name (codes "role") AddRole) ∷ (codes "delrole", one_name (codes "role") DeleteRole)
    ∷ relation_rows

-- the policy commands that list no roles
unfoldable pub plain_rows : List Row
plain_rows =
    (codes "logout", nothing (Policy DeleteSession)) ∷ (codes "activate", one_name (codes "role") AddActiveRole)
    ∷ (codes "drop", one_name (codes "role") DropActiveRole) ∷ (codes "undsd", one_name (codes "name") DeleteDsdSet)
    ∷ user_or_role_rows

-- the policy commands
unfoldable pub policy_rows : List Row
policy_rows = (codes "login", roles_user) ∷ (codes "dsd", count_name_roles) ∷ plain_rows

-- the commands on slots, checks, and all policy commands
unfoldable pub rows : List Row
rows =
    (codes "step", slot_alone (Move (Step (record {})))) ∷ (codes "look", instant_slot) ∷ (codes "offer", signal_slot) ∷
    (codes "check", object_operation)
    ∷ (codes "load", main_slot_text) ∷ (codes "discard", slot_alone (Move Discard))
    ∷ (codes "unload", slot_alone (Move Unload)) ∷
    (codes "audit", slot_alone Audit)
    ∷ policy_rows

-- the request of a command of this word, by the first of these rows that has it
abbrev pub request_in : List Row → (word : List ℕ) → List Token → Option Request
request_in [] word tokens = None
request_in (row ∷ more) word tokens = if bytes_eq word row.0 then request_of row.1 tokens
    else request_in more word tokens

-- the request of an object: the word is its first member
unfoldable pub request_at : List Token → Option Request
request_at tokens = option_and_then (λ word. request_in rows word.0 word.1) (word_at tokens)
