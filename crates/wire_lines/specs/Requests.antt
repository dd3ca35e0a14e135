-- A request line, as the JSON that it is (this project's own form).
use Rattle.std.specs.Prelude.{◌≡◌, ◌≤◌, ◌<◌, ◌^◌, ℕ, IsTrue, IsUtf8, List, length, map, codes, Some, Result, Ok, Err}
use Rattle.std.specs.List.{AllByRecursion}
use Rattle.serde_json.specs.Data.{Data, number, unsigned, string, array, object, Members, member, no_members}
use Rattle.serde_json.specs.Read.{read}
use Rattle.serde_json.specs.View.{items_of}
use Rattle.est_text.specs.Identifiers.{is_identifier}
use Rattle.rbac_policy.specs.declared.commands.AdminCommand.{AdminCommand}
use Rattle.rbac_policy.specs.declared.commands.AdminCommand.TheVariants.{AddUser, DeleteUser, AddRole, DeleteRole}
use Rattle.rbac_policy.specs.declared.commands.AdminCommand.TheVariants.{AssignUser, DeassignUser, GrantPermission}
use Rattle.rbac_policy.specs.declared.commands.AdminCommand.TheVariants.{RevokePermission, AddInheritance}
use Rattle.rbac_policy.specs.declared.commands.AdminCommand.TheVariants.{DeleteInheritance, CreateDsdSet, DeleteDsdSet}
use Rattle.rbac_policy.specs.declared.commands.AdminCommand.TheVariants.{CreateSession, DeleteSession, AddActiveRole}
use Rattle.rbac_policy.specs.declared.commands.AdminCommand.TheVariants.{DropActiveRole}
use Rattle.rbac_policy.specs.declared.names.TheConstants.{LISTED_ROLES}
use Rattle.rbac_policy.specs.declared.objects.Object.{Object}
use Rattle.rbac_policy.specs.declared.objects.Operation.{Operation}
use Rattle.rbac_policy.specs.Names.{is_name}
use Rattle.rbac_policy.specs.Texts.{operation_text, object_text, IsObject}
use Rattle.reactor_core.specs.declared.entry.Move.TheVariants.{Load, Offer, Discard, Step, Unload}
use Rattle.access_core.specs.declared.command.SlotCommand.{SlotCommand}
use Rattle.access_core.specs.declared.command.SlotCommand.TheVariants.{Move, Look, Audit}
use Rattle.access_core.specs.declared.refusal.Refusal.{Refusal}
use Rattle.access_core.specs.declared.refusal.Refusal.TheVariants as refusal
use Rattle.wire_lines.specs.declared.request.Request.{Request}
use Rattle.wire_lines.specs.declared.request.Request.TheVariants.{Policy, Slot, Check}

-- a member whose value is a text
abbrev pub text_member : List ℕ → List ℕ → Members → Members
text_member key text others = member key (string text) others

-- a member whose value is a whole number
abbrev pub number_member : List ℕ → ℕ → Members → Members
number_member key n others = member key (number (unsigned n)) others

-- a member whose value is a list of texts
abbrev pub texts_member : List ℕ → List (List ℕ) → Members → Members
texts_member key texts others = member key (array (items_of (map string texts))) others

-- the member that says the command's word, and those after it
abbrev pub command_member : List ℕ → Members → Members
command_member word others = text_member (codes "cmd") word others

-- the member that says the slot, and those after it
abbrev pub slot_member : ℕ → Members → Members
slot_member slot others = number_member (codes "slot") slot others

-- the text is a name
abbrev pub IsName : List ℕ → Type 0
IsName text = IsTrue (is_name text)

-- the number fits 64 bits
abbrev pub IsNumber : ℕ → Type 0
IsNumber n = n < 2 ^ 64

-- no more roles are listed than a command may list, and they are names
abbrev pub AreListed : List (List ℕ) → Type 0
AreListed roles = (length roles ≤ LISTED_ROLES) × AllByRecursion (λ role. IsName role) roles

-- what a line says after its command's word: one case for each shape of keys, with their values
pub data Said : Type 0 where
  nothing : Said
  one_name : (key name : List ℕ) → Said
  two_names : (first one second other : List ℕ) → Said
  permission : Object → Operation → (role : List ℕ) → Said
  roles_user : List (List ℕ) → (user : List ℕ) → Said
  count_name_roles : (count : ℕ) → (set : List ℕ) → List (List ℕ) → Said
  slot_alone : (slot : ℕ) → Said
  main_slot_text : (main : List ℕ) → (slot : ℕ) → (text : List ℕ) → Said
  signal_slot : (signal : List ℕ) → (slot : ℕ) → Said
  instant_slot : (instant slot : ℕ) → Said
  object_operation : Object → Operation → Said

-- the members that say it, in the order of their keys
abbrev pub said_members : Said → Members
said_members nothing = no_members
said_members (one_name key name) = text_member key name no_members
said_members (two_names first one second other) = text_member first one (text_member second other no_members)
said_members (permission on operation role) =
    text_member (codes "object") (object_text on)
    (text_member (codes "op") (operation_text operation) (text_member (codes "role") role no_members))
said_members (roles_user roles user) = texts_member (codes "roles") roles (text_member (codes "user") user no_members)
said_members (count_name_roles count set roles) =
    number_member (codes "count") count (text_member (codes "name") set (texts_member (codes "roles") roles no_members))
said_members (slot_alone slot) = slot_member slot no_members
said_members (main_slot_text main slot text) =
    text_member (codes "main") main (slot_member slot (text_member (codes "text") text no_members))
said_members (signal_slot signal slot) = text_member (codes "signal") signal (slot_member slot no_members)
said_members (instant_slot instant slot) = number_member (codes "instant") instant (slot_member slot no_members)
said_members (object_operation on operation) =
    text_member (codes "object") (object_text on) (text_member (codes "op") (operation_text operation) no_members)

-- names and identifiers are of their form, slots in objects are among the sixteen, the roles can be listed, and
-- numbers fit 64 bits
abbrev pub SaidFits : Said → Type 0
SaidFits nothing = Unit {0}
SaidFits (one_name key name) = IsName name
SaidFits (two_names first one second other) = IsName one × IsName other
SaidFits (permission on operation role) = IsObject on × IsName role
SaidFits (roles_user roles user) = AreListed roles × IsName user
SaidFits (count_name_roles count set roles) = IsNumber count × IsName set × AreListed roles
SaidFits (slot_alone slot) = IsNumber slot
SaidFits (main_slot_text main slot text) = IsTrue (is_identifier main) × IsNumber slot
SaidFits (signal_slot signal slot) = IsTrue (is_identifier signal) × IsNumber slot
SaidFits (instant_slot instant slot) = IsNumber instant × IsNumber slot
SaidFits (object_operation on operation) = IsObject on

-- a command's word, and what its line says after it
pub record Spelling : Type 0 where
  pub word : List ℕ
  pub said : Said

abbrev pub spelt : List ℕ → Said → Spelling
spelt word said = record { word = word; said = said }

-- the table of policy commands: a login is the CreateSession of a user, and a logout the DeleteSession of its session
abbrev pub policy_spelling : AdminCommand → Spelling
policy_spelling (AddUser user) = spelt (codes "adduser") (one_name (codes "user") user)
policy_spelling (DeleteUser user) = spelt (codes "deluser") (one_name (codes "user") user)
policy_spelling (AddRole role) = spelt (codes "addrole") (one_name (codes "role") role)
policy_spelling (DeleteRole role) = spelt (codes "delrole") (one_name (codes "role") role)
policy_spelling (AssignUser user role) = spelt (codes "assign") (two_names (codes "role") role (codes "user") user)
policy_spelling (DeassignUser user role) = spelt (codes "deassign") (two_names (codes "role") role (codes "user") user)
policy_spelling (GrantPermission role operation on) = spelt (codes "grant") (permission on operation role)
policy_spelling (RevokePermission role operation on) = spelt (codes "revoke") (permission on operation role)
policy_spelling (AddInheritance senior junior) =
    spelt (codes "inherit") (two_names (codes "junior") junior (codes "senior") senior)
policy_spelling (DeleteInheritance senior junior) =
    spelt (codes "disinherit") (two_names (codes "junior") junior (codes "senior") senior)
policy_spelling (CreateDsdSet set count roles) = spelt (codes "dsd") (count_name_roles count set roles)
policy_spelling (DeleteDsdSet set) = spelt (codes "undsd") (one_name (codes "name") set)
policy_spelling (CreateSession user roles) = spelt (codes "login") (roles_user roles user)
policy_spelling DeleteSession = spelt (codes "logout") nothing
policy_spelling (AddActiveRole role) = spelt (codes "activate") (one_name (codes "role") role)
policy_spelling (DropActiveRole role) = spelt (codes "drop") (one_name (codes "role") role)

-- the table of commands on the slot of this number
abbrev pub slot_spelling : (slot : ℕ) → SlotCommand → Spelling
slot_spelling slot (Move (Load l)) = spelt (codes "load") (main_slot_text l.main slot l.text)
slot_spelling slot (Move (Offer signal)) = spelt (codes "offer") (signal_slot signal slot)
slot_spelling slot (Move Discard) = spelt (codes "discard") (slot_alone slot)
slot_spelling slot (Move (Step i)) = spelt (codes "step") (slot_alone slot)
slot_spelling slot (Move Unload) = spelt (codes "unload") (slot_alone slot)
slot_spelling slot (Look instant) = spelt (codes "look") (instant_slot instant slot)
slot_spelling slot Audit = spelt (codes "audit") (slot_alone slot)

-- how a request is spelt
abbrev pub spelling : Request → Spelling
spelling (Policy asked) = policy_spelling asked
spelling (Slot slot asked) = slot_spelling slot asked
spelling (Check operation on) = spelt (codes "check") (object_operation on operation)

-- the members of a request, in the order of their keys
abbrev pub members_of : Request → Members
members_of request = command_member (spelling request).word (said_members (spelling request).said)

-- what a request says fits its limits
abbrev pub Fits : Request → Type 0
Fits request = SaidFits (spelling request).said

-- the line is text that reads as this JSON value
pub record IsValue (line : List ℕ) (d : Data) : Type 0 where
  pub text : IsUtf8 line
  pub reads : read line ≡ Some d

-- the line asks for this request: it reads as the object of its members, whatever the order of its keys
pub record IsRequest (line : List ℕ) (request : Request) : Type 0 where
  pub value : IsValue line (object (members_of request))
  pub fits : Fits request

-- what a line is read as: the request that it asks for; NotJson where it reads as no value; NotARequest where it reads
-- as a value and asks for no request; Memory where memory was refused
abbrev pub IsReadAs : List ℕ → Result Request Refusal → Type 0
IsReadAs line (Ok request) = IsRequest line request
IsReadAs line (Err refusal.NotJson) = (d : Data) → IsValue line d → ⊥
IsReadAs line (Err refusal.NotARequest) =
    ((d : Data) × IsValue line d) × ((request : Request) → IsRequest line request → ⊥)
IsReadAs line (Err refusal.Memory) = Unit {0}
IsReadAs line (Err _) = ⊥
