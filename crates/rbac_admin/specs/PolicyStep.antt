-- The policy step: for each command the rules of refusal in their order, and the entry where all of them let pass
-- (this project's own form).
--
-- A command's rules stand in five lists, which are asked in this order: who gives it (session_rules, permission_rules),
-- whether what it names is there or new (existence_rules), what it asks of that (condition_rules), separation
-- (separation_rules), and room in its table (table_rules). The conditions themselves: rbac_admin specs/Conditions, and
-- specs/Facts, Separation and Fits of rbac_policy. A full journal and want of memory come after all of them:
-- specs/Room, AdminSteps.
use Rattle.std.specs.Prelude.{◌≡◌, ℕ, if◌then◌else◌, List, [], ◌∷◌, ◌++◌, Option, None, Result, Ok, Err, Contains}
use Rattle.refusal_rules.specs.Rules.{Rule, Rules, RefuseIf, RefuseUnless, RefuseNaming, accept, ◌▸◌, ◌▸▸◌, Answers}
use Rattle.rbac_policy.specs.declared.objects.Operation.TheVariants.{Administer}
use Rattle.rbac_policy.specs.declared.objects.Object.TheVariants.{Policy}
use Rattle.rbac_policy.specs.declared.commands.AdminCommand.{AdminCommand}
use Rattle.rbac_policy.specs.declared.commands.AdminCommand.TheVariants.{AddUser, DeleteUser, AddRole, DeleteRole}
use Rattle.rbac_policy.specs.declared.commands.AdminCommand.TheVariants.{AssignUser, DeassignUser, GrantPermission}
use Rattle.rbac_policy.specs.declared.commands.AdminCommand.TheVariants.{RevokePermission, AddInheritance}
use Rattle.rbac_policy.specs.declared.commands.AdminCommand.TheVariants.{DeleteInheritance, CreateDsdSet, DeleteDsdSet}
use Rattle.rbac_policy.specs.declared.commands.AdminCommand.TheVariants.{CreateSession, DeleteSession, AddActiveRole}
use Rattle.rbac_policy.specs.declared.commands.AdminCommand.TheVariants.{DropActiveRole}
use Rattle.rbac_policy.specs.declared.commands.Table.TheVariants.{Users, Roles, Permissions, Sessions, Sets}
use Rattle.rbac_policy.specs.declared.commands.Entry.{Entry}
use Rattle.rbac_policy.specs.Names.{NameText}
use Rattle.rbac_policy.specs.Entries.{makes_session}
use Rattle.rbac_policy.specs.Facts.{IsUser, IsRole, IsSetName, IsAssigned, IsGranted, IsEdge, IsAtOrBelow, IsAuthorized}
use Rattle.rbac_policy.specs.Fits.{UsersFull, RolesFull, SetsFull, SessionsFull, NumbersExhausted}
use Rattle.rbac_admin.specs.declared.refusal.PolicyRefusal.{PolicyRefusal}
use Rattle.rbac_admin.specs.declared.refusal.PolicyRefusal.TheVariants.{NoSession, SessionsExhausted, Permission}
use Rattle.rbac_admin.specs.declared.refusal.PolicyRefusal.TheVariants.{
  DsdViolated,
  NotAuthorized,
  AlreadyActive,
  NotActive,
}
use Rattle.rbac_admin.specs.declared.refusal.PolicyRefusal.TheVariants.{Cycle, UnknownUser, UnknownRole, UserExists}
use Rattle.rbac_admin.specs.declared.refusal.PolicyRefusal.TheVariants.{RoleExists, AlreadyAssigned, NotAssigned}
use Rattle.rbac_admin.specs.declared.refusal.PolicyRefusal.TheVariants.{AlreadyGranted, NotGranted, EdgeExists, NoEdge}
use Rattle.rbac_admin.specs.declared.refusal.PolicyRefusal.TheVariants.{DsdExists, NoDsd, DsdShape, RoleInDsd, Full}
use Rattle.rbac_admin.specs.Conditions.{HasSession, Administers, HasAuthorized, HasActive, HasNoRoomFor, IsNoShape}
use Rattle.rbac_admin.specs.Conditions.{FirstListed}
use Rattle.rbac_policy.specs.Separation.{IsFirstViolated, IsFirstSetOf}

-- refuses where no session gives the command, or it doesn't live; and hands on the session that does
abbrev pub no_session : List Entry → Option ℕ → Rule PolicyRefusal
no_session entries session = RefuseUnless (HasSession entries session) NoSession

-- refuses a session that may not change the policy
abbrev pub no_permission : List Entry → Option ℕ → Rule PolicyRefusal
no_permission entries session = RefuseUnless (Administers entries session) (Permission Administer Policy)

-- refuses where there is no such user
abbrev pub unknown_user : List Entry → NameText → Rule PolicyRefusal
unknown_user entries user = RefuseUnless (IsUser entries user) (UnknownUser user)

-- refuses where there is no such role
abbrev pub unknown_role : List Entry → NameText → Rule PolicyRefusal
unknown_role entries role = RefuseUnless (IsRole entries role) (UnknownRole role)

-- names the first listed name that is no role's
abbrev pub unknown_listed : List Entry → List NameText → Rule PolicyRefusal
unknown_listed entries roles = RefuseNaming UnknownRole (FirstListed (λ before role. IsRole entries role → ⊥) roles)

-- names the first listed role for which the user is not authorized
abbrev pub unauthorized_listed : List Entry → NameText → List NameText → Rule PolicyRefusal
unauthorized_listed entries user roles = RefuseNaming NotAuthorized
    (FirstListed (λ before role. IsAuthorized entries user role → ⊥) roles)

-- names the first listed role that stands a second time
abbrev pub repeated_listed : List NameText → Rule PolicyRefusal
repeated_listed roles = RefuseNaming AlreadyActive (FirstListed Contains roles)

-- names the first set that is violated with the entry appended, and the least session that would hold too many roles of
-- it
abbrev pub violation : List Entry → Option ℕ → AdminCommand → Rule PolicyRefusal
violation entries session command =
    RefuseNaming {Thing = NameText × ℕ} (λ violated. DsdViolated violated.0 violated.1)
    (λ violated. IsFirstViolated (entries ++ record { session = session; command = command } ∷ []) violated.0
    violated.1)

-- the entry of an accepted command: it has the session that gave the command, but for a login, which no session gives
abbrev pub entry_of : Option ℕ → AdminCommand → Entry
entry_of session command = record { session = if makes_session command then None else session; command = command }

-- a session that lives gives the command, unless it is a login
abbrev pub session_rules : List Entry → Option ℕ → AdminCommand → Rules PolicyRefusal
session_rules entries s (CreateSession user roles) = accept
session_rules entries s _ = no_session entries s ▸ accept

-- the session may change the policy, unless the command is one of those of sessions
abbrev pub permission_rules : List Entry → Option ℕ → AdminCommand → Rules PolicyRefusal
permission_rules entries s (CreateSession user roles) = accept
permission_rules entries s DeleteSession = accept
permission_rules entries s (AddActiveRole role) = accept
permission_rules entries s (DropActiveRole role) = accept
permission_rules entries s _ = no_permission entries s ▸ accept

-- what the command names: a user, role or set that it makes is new, and each other one is there; and a login has a
-- number left
abbrev pub existence_rules : List Entry → AdminCommand → Rules PolicyRefusal
existence_rules entries (AddUser user) = RefuseIf (UserExists user) (IsUser entries user) ▸ accept
existence_rules entries (DeleteUser user) = unknown_user entries user ▸ accept
existence_rules entries (AddRole role) = RefuseIf (RoleExists role) (IsRole entries role) ▸ accept
existence_rules entries (DeleteRole role) = unknown_role entries role ▸ accept
existence_rules entries (AssignUser user role) = unknown_user entries user ▸ unknown_role entries role ▸ accept
existence_rules entries (DeassignUser user role) = unknown_user entries user ▸ unknown_role entries role ▸ accept
existence_rules entries (GrantPermission role operation object) = unknown_role entries role ▸ accept
existence_rules entries (RevokePermission role operation object) = unknown_role entries role ▸ accept
existence_rules entries (AddInheritance senior junior) =
    unknown_role entries senior ▸ unknown_role entries junior ▸ accept
existence_rules entries (DeleteInheritance senior junior) = unknown_role entries senior ▸ unknown_role entries junior
    ▸ accept
existence_rules entries (CreateDsdSet set count roles) =
    RefuseIf (DsdExists set) (IsSetName entries set) ▸ unknown_listed entries roles ▸ accept
existence_rules entries (DeleteDsdSet set) = RefuseUnless (IsSetName entries set) (NoDsd set) ▸ accept
existence_rules entries (CreateSession user roles) =
    RefuseIf SessionsExhausted (NumbersExhausted entries) ▸ unknown_user entries user ▸ unknown_listed entries roles
    ▸ accept
existence_rules entries DeleteSession = accept
existence_rules entries (AddActiveRole role) = unknown_role entries role ▸ accept
existence_rules entries (DropActiveRole role) = unknown_role entries role ▸ accept

-- what the command, which this session gives, asks of what it names
abbrev pub condition_rules : List Entry → Option ℕ → AdminCommand → Rules PolicyRefusal
condition_rules entries s (DeleteRole role) = RefuseNaming RoleInDsd (IsFirstSetOf entries role) ▸ accept
condition_rules entries s (AssignUser user role) = RefuseIf AlreadyAssigned (IsAssigned entries user role) ▸ accept
condition_rules entries s (DeassignUser user role) = RefuseUnless (IsAssigned entries user role) NotAssigned ▸ accept
condition_rules entries s (GrantPermission role operation object) =
    RefuseIf AlreadyGranted (IsGranted entries role operation object) ▸ accept
condition_rules entries s (RevokePermission role operation object) =
    RefuseUnless (IsGranted entries role operation object) NotGranted ▸ accept
condition_rules entries s (AddInheritance senior junior) =
    RefuseIf Cycle (IsAtOrBelow entries senior junior) ▸ RefuseIf EdgeExists (IsEdge entries senior junior) ▸ accept
condition_rules entries s (DeleteInheritance senior junior) =
    RefuseUnless (IsEdge entries senior junior) NoEdge ▸ accept
condition_rules entries s (CreateDsdSet set count roles) = RefuseIf DsdShape (IsNoShape count roles) ▸ accept
condition_rules entries s (CreateSession user roles) = unauthorized_listed entries user roles ▸ repeated_listed roles
    ▸ accept
condition_rules entries s (AddActiveRole role) =
    RefuseUnless (HasAuthorized entries s role) (NotAuthorized role)
    ▸ RefuseIf (AlreadyActive role) (HasActive entries s role)
    ▸ accept
condition_rules entries s (DropActiveRole role) = RefuseUnless (HasActive entries s role) (NotActive role) ▸ accept
condition_rules entries s _ = accept

-- refuses where the command would violate a separation set
abbrev pub separation_rules : List Entry → Option ℕ → AdminCommand → Rules PolicyRefusal
separation_rules entries s (AddInheritance senior junior) = violation entries s (AddInheritance senior junior) ▸ accept
separation_rules entries s (CreateDsdSet set count roles) = violation entries s (CreateDsdSet set count roles) ▸ accept
separation_rules entries s (CreateSession user roles) = violation entries None (CreateSession user roles) ▸ accept
separation_rules entries s (AddActiveRole role) = violation entries s (AddActiveRole role) ▸ accept
separation_rules entries s _ = accept

-- refuses where the table is full in which the command makes something
abbrev pub table_rules : List Entry → AdminCommand → Rules PolicyRefusal
table_rules entries (AddUser user) = RefuseIf (Full Users) (UsersFull entries) ▸ accept
table_rules entries (AddRole role) = RefuseIf (Full Roles) (RolesFull entries) ▸ accept
table_rules entries (GrantPermission role operation object) =
    RefuseIf (Full Permissions) (HasNoRoomFor entries operation object) ▸ accept
table_rules entries (CreateDsdSet set count roles) = RefuseIf (Full Sets) (SetsFull entries) ▸ accept
table_rules entries (CreateSession user roles) = RefuseIf (Full Sessions) (SessionsFull entries) ▸ accept
table_rules entries _ = accept

-- what is asked, in this order, of the command whose entry names this session
abbrev pub given_rules : List Entry → Option ℕ → AdminCommand → Rules PolicyRefusal
given_rules entries by command =
    permission_rules entries by command ▸▸ existence_rules entries command ▸▸ condition_rules entries by command
    ▸▸ separation_rules entries by command ▸▸ table_rules entries command

-- the rules of refusal of the command, which this session gives, after these entries (this project's order)
abbrev pub policy_rules : List Entry → Option ℕ → AdminCommand → Rules PolicyRefusal
policy_rules entries s command =
    session_rules entries s command ▸▸ given_rules entries (entry_of s command).session command

-- a test of rules: it answers the refusal of the first that refuses, and passes where all let pass
abbrev pub Checks : Rules PolicyRefusal → Result (Unit {0}) PolicyRefusal → Type 0
Checks rules answer = Answers rules (λ refusal. answer ≡ Err refusal) (answer ≡ Ok (record {}))

-- the answer to the command, which this session gives, after these entries: by its rules a refusal, or its entry
abbrev pub PolicyStep : List Entry → Option ℕ → AdminCommand → Result Entry PolicyRefusal → Type 0
PolicyStep entries session command answer =
    Answers (policy_rules entries session command) (λ refusal. answer ≡ Err refusal)
    (answer ≡ Ok (entry_of session command))
