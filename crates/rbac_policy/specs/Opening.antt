-- The entries that a policy opens with (this project's own form).
use Rattle.std.specs.Prelude.{List, [], ◌∷◌, None, codes}
use Rattle.rbac_policy.specs.declared.objects.Operation.TheVariants.{Administer}
use Rattle.rbac_policy.specs.declared.objects.Object.TheVariants.{Policy}
use Rattle.rbac_policy.specs.declared.commands.AdminCommand.TheVariants.{AddUser, AddRole, AssignUser, GrantPermission}
use Rattle.rbac_policy.specs.declared.commands.Entry.{Entry}
use Rattle.rbac_policy.specs.Names.{NameText}

-- the name of the first user, and of its role
abbrev pub root : NameText
root = codes "root"

-- the user root, the role root, the one assigned to the other, and the right to administer
abbrev pub opening_entries : List Entry
opening_entries =
    record { session = None; command = AddUser root }
    ∷ record { session = None; command = AddRole root }
    ∷ record { session = None; command = AssignUser root root }
    ∷ record { session = None; command = GrantPermission root Administer Policy }
    ∷ []
