-- A test of the commands that a policy list opens with: private to the audit of the policy list.
use Rattle.std.specs.Prelude.{ℕ, Bool, true, false, ◌&&◌, nat_eq}
use Rattle.std.specs.Str.{bytes_eq}
use Rattle.rbac_policy.specs.declared.commands.AdminCommand.{AdminCommand}
use Rattle.rbac_policy.specs.declared.commands.AdminCommand.TheVariants.{AddUser, AddRole, AssignUser, GrantPermission}
use Rattle.rbac_policy.specs.declared.objects.Object.{Object}
use Rattle.rbac_policy.specs.declared.objects.Object.TheVariants.{Policy}
use Rattle.rbac_policy.specs.declared.objects.Operation.{Operation}
use Rattle.rbac_policy.specs.declared.objects.Operation.TheVariants.{Administer}
use Rattle.rbac_policy.specs.Names.{NameText}
use Rattle.rbac_policy.specs.Opening.{root}

-- the name is `root`
abbrev pub is_root : NameText → Bool
is_root name = bytes_eq name root

-- the operation is that of changing the policy
abbrev pub is_administer : Operation → Bool
is_administer Administer = true
is_administer _ = false

-- the object is the policy
abbrev pub is_policy : Object → Bool
is_policy Policy = true
is_policy _ = false

-- the command is the opening one of this place, counted from 0
abbrev pub is_opening : (place : ℕ) → AdminCommand → Bool
is_opening place (AddUser user) = nat_eq place 0 && is_root user
is_opening place (AddRole role) = nat_eq place 1 && is_root role
is_opening place (AssignUser user role) = nat_eq place 2 && (is_root user && is_root role)
is_opening place (GrantPermission role operation object) =
    nat_eq place 3 && (is_root role && (is_administer operation && is_policy object))
is_opening place _ = false
