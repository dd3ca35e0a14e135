-- What a list of accepted entries says: users, roles, assignments, permissions, edges, sessions, the order, and who may
-- do what (ANSI INCITS 359-2004, general hierarchical access control with dynamic separation of duty, restated over the
-- entries; the names in brackets are the sets, relations and functions of that standard).
use Rattle.std.specs.Prelude.{◌≡◌, ℕ, ◌+◌, ◌<◌, ◌≤◌, ◌⊎◌, List, Some, Contains, take, length, slice_get}
use Rattle.rbac_policy.specs.declared.objects.Operation.{Operation}
use Rattle.rbac_policy.specs.declared.objects.Object.{Object}
use Rattle.rbac_policy.specs.declared.commands.AdminCommand.TheVariants.{AddUser, DeleteUser, AddRole, DeleteRole}
use Rattle.rbac_policy.specs.declared.commands.AdminCommand.TheVariants.{AssignUser, DeassignUser, GrantPermission}
use Rattle.rbac_policy.specs.declared.commands.AdminCommand.TheVariants.{RevokePermission, AddInheritance}
use Rattle.rbac_policy.specs.declared.commands.AdminCommand.TheVariants.{DeleteInheritance, CreateDsdSet, DeleteDsdSet}
use Rattle.rbac_policy.specs.declared.commands.AdminCommand.TheVariants.{CreateSession, DeleteSession, AddActiveRole}
use Rattle.rbac_policy.specs.declared.commands.AdminCommand.TheVariants.{DropActiveRole}
use Rattle.rbac_policy.specs.declared.commands.Entry.{Entry}
use Rattle.rbac_policy.specs.Names.{NameText}
use Rattle.rbac_policy.specs.Entries.{InForce, logins}
use Rattle.rbac_closure.specs.Edges.{Chain}
use Rattle.rbac_policy.specs.Counting.{HasAtLeast}

-- the user was added, and not deleted since (USERS)
abbrev pub IsUser : List Entry → NameText → Type 0
IsUser entries user = InForce (λ before e. e.command ≡ AddUser user) (λ e. e.command ≡ DeleteUser user) entries

-- the role was added, and not deleted since (ROLES)
abbrev pub IsRole : List Entry → NameText → Type 0
IsRole entries role = InForce (λ before e. e.command ≡ AddRole role) (λ e. e.command ≡ DeleteRole role) entries

-- the separation set of this name, number and roles was created by the entry at this place, and not deleted since (DSD)
abbrev pub IsSet : List Entry → ℕ → NameText → ℕ → List NameText → Type 0
IsSet entries place set count roles =
    InForce (λ before e. (length before ≡ place) × (e.command ≡ CreateDsdSet set count roles))
    (λ e. e.command ≡ DeleteDsdSet set) entries

-- there is a separation set of this name
pub record IsSetName (entries : List Entry) (set : NameText) : Type 0 where
  pub place : ℕ
  pub count : ℕ
  pub roles : List NameText
  pub is_set : IsSet entries place set count roles

-- the entry takes the role from the user (DeassignUser; DeleteUser and DeleteRole take all of theirs)
abbrev pub Unassigns : NameText → NameText → Entry → Type 0
Unassigns user role e = (e.command ≡ DeassignUser user role) ⊎ (e.command ≡ DeleteUser user)
    ⊎ (e.command ≡ DeleteRole role)

-- the user has the role, not through other roles (UA, user assignment)
abbrev pub IsAssigned : List Entry → NameText → NameText → Type 0
IsAssigned entries user role = InForce (λ before e. e.command ≡ AssignUser user role) (Unassigns user role) entries

-- the entry takes the permission from the role (RevokePermission; DeleteRole takes all of its own)
abbrev pub Revokes : NameText → Operation → Object → Entry → Type 0
Revokes role op object e = (e.command ≡ RevokePermission role op object) ⊎ (e.command ≡ DeleteRole role)

-- the role itself has the permission, not through those below it (PA, permission assignment)
abbrev pub IsGranted : List Entry → NameText → Operation → Object → Type 0
IsGranted entries role op object = InForce (λ before e. e.command ≡ GrantPermission role op object)
    (Revokes role op object) entries

-- some role itself has the permission (PRMS that PA names; this project counts them for a table's limit)
abbrev pub IsPairGranted : List Entry → Operation → Object → Type 0
IsPairGranted entries op object = (role : NameText) × IsGranted entries role op object

-- the entry takes the edge away (DeleteInheritance; DeleteRole takes those at its role)
abbrev pub Disinherits : NameText → NameText → Entry → Type 0
Disinherits senior junior e =
    (e.command ≡ DeleteInheritance senior junior) ⊎ (e.command ≡ DeleteRole senior) ⊎ (e.command ≡ DeleteRole junior)

-- an edge leads from the senior to the junior (AddInheritance; this project keeps the pairs as they were given, where
-- the standard keeps what they imply)
abbrev pub IsEdge : List Entry → NameText → NameText → Type 0
IsEdge entries senior junior = InForce (λ before e. e.command ≡ AddInheritance senior junior)
    (Disinherits senior junior) entries

-- the entry makes the session of this number (CreateSession): the n-th that makes one makes number n, so that none is
-- used again (own form)
pub record Creates (session : ℕ) (user : NameText) (roles : List NameText) (before : List Entry)
    (e : Entry) : Type 0 where
  pub login : e.command ≡ CreateSession user roles
  pub number : session ≡ logins before + 1

-- the entry makes the session, and lists the role (CreateSession, its set of roles)
pub record CreatesWith (session : ℕ) (role : NameText) (before : List Entry) (e : Entry) : Type 0 where
  pub user : NameText
  pub roles : List NameText
  pub creates : Creates session user roles before e
  pub listed : Contains roles role

-- the session activates the role (AddActiveRole)
abbrev pub Activates : ℕ → NameText → Entry → Type 0
Activates session role e = (e.session ≡ Some session) × (e.command ≡ AddActiveRole role)

-- the session drops the role (DropActiveRole)
abbrev pub Drops : ℕ → NameText → Entry → Type 0
Drops session role e = (e.session ≡ Some session) × (e.command ≡ DropActiveRole role)

-- the role was given to the session when it was made, or activated by it, and not dropped since (session_roles)
abbrev pub IsActive : List Entry → ℕ → NameText → Type 0
IsActive entries session role =
    InForce (λ before e. CreatesWith session role before e ⊎ Activates session role e) (Drops session role) entries

-- a chain of edges, possibly empty, leads from the senior to the junior (RH, the inheritance relation)
abbrev pub IsAtOrBelow : List Entry → NameText → NameText → Type 0
IsAtOrBelow entries junior senior = Chain (IsEdge entries) senior junior

-- a role at or above this one is assigned to the user (authorized_users)
pub record IsAuthorized (entries : List Entry) (user role : NameText) : Type 0 where
  pub exists : IsRole entries role
  pub by : NameText
  pub assigned : IsAssigned entries user by
  pub order : IsAtOrBelow entries role by

-- each role that is active in the session is one for which the user is authorized (what the standard asks of
-- session_roles)
abbrev pub HasOnlyAuthorized : List Entry → ℕ → NameText → Type 0
HasOnlyAuthorized entries session user = (role : NameText) → IsActive entries session role
    → IsAuthorized entries user role

-- the entry logs the session out, or deletes its user (DeleteSession, DeleteUser)
abbrev pub Ends : ℕ → NameText → Entry → Type 0
Ends session user e = ((e.session ≡ Some session) × (e.command ≡ DeleteSession)) ⊎ (e.command ≡ DeleteUser user)

-- the session was made for the user, not ended since, and had only roles for which the user was authorized at each time
-- since (SESSIONS; that the command which takes the authorization away ends the session is this project's own form)
pub record Lives (entries : List Entry) (session : ℕ) (user : NameText) : Type 0 where
  pub at : ℕ
  pub entry : Entry
  pub roles : List NameText
  pub there : slice_get entries at ≡ Some entry
  pub made : Creates session user roles (take at entries) entry
  pub kept : (later : ℕ) (e : Entry) → at < later → slice_get entries later ≡ Some e → ¬ (Ends session user e)
  pub authorized : (n : ℕ) → at < n → n ≤ length entries → HasOnlyAuthorized (take n entries) session user

-- the session lives, whoever its user is (SESSIONS)
abbrev pub IsLive : List Entry → ℕ → Type 0
IsLive entries session = (user : NameText) × Lives entries session user

-- the session lives, and a role at or below one that is active in it has the permission (CheckAccess, over authorized
-- permissions)
pub record May (entries : List Entry) (session : ℕ) (op : Operation) (object : Object) : Type 0 where
  pub user : NameText
  pub lives : Lives entries session user
  pub active : NameText
  pub is_active : IsActive entries session active
  pub role : NameText
  pub below : IsAtOrBelow entries role active
  pub granted : IsGranted entries role op object

-- the role is active in the session, or lies below one that is (session_roles and RH)
pub record IsActiveOrBelow (entries : List Entry) (session : ℕ) (role : NameText) : Type 0 where
  pub active : NameText
  pub is_active : IsActive entries session active
  pub below : IsAtOrBelow entries role active

-- the session lives, and at least `count` of the roles are active in it or lie below one that is (DSD; that those below
-- count is own form)
pub record Violates (entries : List Entry) (session count : ℕ) (roles : List NameText) : Type 0 where
  pub lives : IsLive entries session
  pub many : HasAtLeast {A = NameText} count (λ role. Contains roles role × IsActiveOrBelow entries session role)
