-- What an entry asks of the entries before it, so that a policy that stands for them can take it in (this project's own
-- form). Each accepted entry fits.
use Rattle.std.specs.Prelude.{◌≡◌, ℕ, ◌<◌, ◌≤◌, List, Option, Some, None, Contains, length, slice_get, take}
use Rattle.rbac_policy.specs.declared.objects.Operation.{Operation}
use Rattle.rbac_policy.specs.declared.objects.Object.{Object}
use Rattle.rbac_policy.specs.declared.commands.AdminCommand.{AdminCommand}
use Rattle.rbac_policy.specs.declared.commands.AdminCommand.TheVariants.{AddUser, DeleteUser, AssignUser, DeassignUser}
use Rattle.rbac_policy.specs.declared.commands.AdminCommand.TheVariants.{AddRole, DeleteRole, GrantPermission}
use Rattle.rbac_policy.specs.declared.commands.AdminCommand.TheVariants.{RevokePermission, AddInheritance}
use Rattle.rbac_policy.specs.declared.commands.AdminCommand.TheVariants.{DeleteInheritance, CreateDsdSet, DeleteDsdSet}
use Rattle.rbac_policy.specs.declared.commands.AdminCommand.TheVariants.{CreateSession, DeleteSession, AddActiveRole}
use Rattle.rbac_policy.specs.declared.commands.AdminCommand.TheVariants.{DropActiveRole}
use Rattle.rbac_policy.specs.declared.commands.Entry.{Entry}
use Rattle.rbac_policy.specs.declared.sizes.TheConstants.{USERS, ROLES, GRANTS, SESSIONS, SETS, LAST_SESSION}
use Rattle.rbac_policy.specs.declared.sizes.TheConstants.{LAST_VERSION}
use Rattle.rbac_policy.specs.Names.{NameText}
use Rattle.rbac_policy.specs.Entries.{logins}
use Rattle.rbac_policy.specs.Facts.{IsUser, IsRole, IsSet, IsSetName, IsLive, IsPairGranted}
use Rattle.rbac_policy.specs.Counting.{HasAtLeast}

-- the table of users is full
abbrev pub UsersFull : List Entry → Type 0
UsersFull entries = HasAtLeast USERS (IsUser entries)

-- the table of roles is full
abbrev pub RolesFull : List Entry → Type 0
RolesFull entries = HasAtLeast ROLES (IsRole entries)

-- as many pairs of an operation and an object as there is room for are granted to some role
abbrev pub PermissionsFull : List Entry → Type 0
PermissionsFull entries = HasAtLeast {A = Operation × Object} GRANTS (λ pair. IsPairGranted entries pair.0 pair.1)

-- as many sessions live as there is room for
abbrev pub SessionsFull : List Entry → Type 0
SessionsFull entries = HasAtLeast SESSIONS (IsLive entries)

-- the table of separation sets is full
abbrev pub SetsFull : List Entry → Type 0
SetsFull entries = HasAtLeast SETS (IsSetName entries)

-- all session numbers were given
abbrev pub NumbersExhausted : List Entry → Type 0
NumbersExhausted entries = LAST_SESSION ≤ logins entries

-- the user is new, and there is room
pub record FitsAddUser (entries : List Entry) (user : NameText) : Type 0 where
  pub absent : ¬ (IsUser entries user)
  pub room : ¬ (UsersFull entries)

-- the role is new, and there is room
pub record FitsAddRole (entries : List Entry) (role : NameText) : Type 0 where
  pub absent : ¬ (IsRole entries role)
  pub room : ¬ (RolesFull entries)

-- user and role are there
pub record FitsAssignUser (entries : List Entry) (user role : NameText) : Type 0 where
  pub is_user : IsUser entries user
  pub is_role : IsRole entries role

-- the role is there, and there is room where the pair is new
pub record FitsGrantPermission (entries : List Entry) (role : NameText) (op : Operation)
    (object : Object) : Type 0 where
  pub is_role : IsRole entries role
  pub room : ¬ (IsPairGranted entries op object) → ¬ (PermissionsFull entries)

-- no session gives the command, its roles are there, and there is room and a number
pub record FitsCreateSession (entries : List Entry) (session : Option ℕ) (roles : List NameText) : Type 0 where
  pub by_none : session ≡ None
  pub are_roles : (role : NameText) → Contains roles role → IsRole entries role
  pub room : ¬ (SessionsFull entries)
  pub numbers : logins entries < LAST_SESSION

-- a session gives the command
pub record FitsDeleteSession (session : Option ℕ) : Type 0 where
  pub number : ℕ
  pub given : session ≡ Some number

-- both roles are there
pub record FitsInheritance (entries : List Entry) (senior junior : NameText) : Type 0 where
  pub is_senior : IsRole entries senior
  pub is_junior : IsRole entries junior

-- the role is there, and in no separation set
pub record FitsDeleteRole (entries : List Entry) (role : NameText) : Type 0 where
  pub is_role : IsRole entries role
  pub in_no_set : (place : ℕ) (set : NameText) (count : ℕ) (members : List NameText)
      → IsSet entries place set count members → ¬ (Contains members role)

-- the separation set is new, its roles are there, and there is room
pub record FitsCreateDsdSet (entries : List Entry) (set : NameText) (roles : List NameText) : Type 0 where
  pub absent : ¬ (IsSetName entries set)
  pub are_roles : (role : NameText) → Contains roles role → IsRole entries role
  pub room : ¬ (SetsFull entries)

-- a living session gives the command, and the role is there
pub record FitsAddActiveRole (entries : List Entry) (session : Option ℕ) (role : NameText) : Type 0 where
  pub number : ℕ
  pub given : session ≡ Some number
  pub lives : IsLive entries number
  pub is_role : IsRole entries role

-- a session gives the command, and the role is there
pub record FitsDropActiveRole (entries : List Entry) (session : Option ℕ) (role : NameText) : Type 0 where
  pub number : ℕ
  pub given : session ≡ Some number
  pub is_role : IsRole entries role

-- what the command asks
abbrev pub FitsCommand : AdminCommand → Option ℕ → List Entry → Type 0
FitsCommand (AddUser user) session entries = FitsAddUser entries user
FitsCommand (AddRole role) session entries = FitsAddRole entries role
FitsCommand (AssignUser user role) session entries = FitsAssignUser entries user role
FitsCommand (GrantPermission role op object) session entries = FitsGrantPermission entries role op object
FitsCommand (CreateSession user roles) session entries = FitsCreateSession entries session roles
FitsCommand DeleteSession session entries = FitsDeleteSession session
FitsCommand (DeassignUser user role) session entries = IsRole entries role
FitsCommand (RevokePermission role op object) session entries = IsRole entries role
FitsCommand (DeleteUser user) session entries = IsUser entries user
FitsCommand (AddInheritance senior junior) session entries = FitsInheritance entries senior junior
FitsCommand (DeleteInheritance senior junior) session entries = FitsInheritance entries senior junior
FitsCommand (DeleteRole role) session entries = FitsDeleteRole entries role
FitsCommand (CreateDsdSet set count roles) session entries = FitsCreateDsdSet entries set roles
FitsCommand (DeleteDsdSet set) session entries = IsSetName entries set
FitsCommand (AddActiveRole role) session entries = FitsAddActiveRole entries session role
FitsCommand (DropActiveRole role) session entries = FitsDropActiveRole entries session role

-- there is a version for the longer list, and what the command asks holds
pub record Fits (entries : List Entry) (entry : Entry) : Type 0 where
  pub few : length entries < LAST_VERSION
  pub command : FitsCommand entry.command entry.session entries

-- each entry fits those before it
pub record AllFit (entries : List Entry) : Type 0 where
  pub each : (at : ℕ) (entry : Entry) → slice_get entries at ≡ Some entry → Fits (take at entries) entry
