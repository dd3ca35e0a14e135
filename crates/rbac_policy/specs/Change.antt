-- What an entry makes of the policy's tables, as it is computed (this project's own form).
use Rattle.std.specs.Prelude.{ℕ, ◌+◌, ◌%◌, List, Option, Some, None, map, fold, replicate, slice_set}
use Rattle.rbac_policy.specs.declared.objects.Operation.{Operation}
use Rattle.rbac_policy.specs.declared.objects.Object.{Object}
use Rattle.rbac_policy.specs.declared.commands.AdminCommand.{AdminCommand}
use Rattle.rbac_policy.specs.declared.commands.AdminCommand.TheVariants.{AddUser, DeleteUser, AddRole, DeleteRole}
use Rattle.rbac_policy.specs.declared.commands.AdminCommand.TheVariants.{AssignUser, DeassignUser, GrantPermission}
use Rattle.rbac_policy.specs.declared.commands.AdminCommand.TheVariants.{RevokePermission, AddInheritance}
use Rattle.rbac_policy.specs.declared.commands.AdminCommand.TheVariants.{DeleteInheritance, CreateDsdSet, DeleteDsdSet}
use Rattle.rbac_policy.specs.declared.commands.AdminCommand.TheVariants.{CreateSession, DeleteSession, AddActiveRole}
use Rattle.rbac_policy.specs.declared.commands.AdminCommand.TheVariants.{DropActiveRole}
use Rattle.rbac_policy.specs.declared.commands.Entry.{Entry}
use Rattle.rbac_policy.specs.declared.policy.Policy.{Policy}
use Rattle.rbac_policy.specs.declared.sizes.TheConstants.{USERS, ROLES, GRANTS, SESSIONS, SETS, LAST_SESSION}
use Rattle.rbac_policy.specs.declared.sizes.TheConstants.{LAST_VERSION}
use Rattle.rbac_policy.specs.Names.{NameText}
use Rattle.rbac_policy.specs.Tables.{place_of, grants_given, put_free, mask_of, session_without, session_kept}
use Rattle.rbac_policy.specs.Tables.{user_assigned, user_deassigned, user_cleared, user_without, grant_revoked}
use Rattle.rbac_policy.specs.Tables.{grant_cleared, session_of_other, session_activated, session_dropped, set_without}
use Rattle.rbac_closure.specs.Edges.{edge_added, edge_removed, role_cleared}

-- the pair is granted to the role at this place, if there is one
abbrev pub granted_at : Option ℕ → Operation → Object → Policy → Policy
granted_at None operation object p = p
granted_at (Some place) operation object p = record p { grants = grants_given operation object place p.grants }

-- the pair is granted to the role of this name, if there is one
abbrev pub granted : NameText → Operation → Object → Policy → Policy
granted role operation object p = granted_at (place_of role p.roles) operation object p

-- a session of the user, with these roles and the next number
abbrev pub logged_in : NameText → List NameText → Policy → Policy
logged_in user roles p =
    let number = (p.logins + 1) % (LAST_SESSION + 1) in
    record p {
      logins = number;
      sessions = put_free (record { number = number; user = user; active = mask_of p.roles roles })
          p.sessions;
    }

-- the session of this number ends, if a session gives the command
abbrev pub logged_out : Option ℕ → Policy → Policy
logged_out None p = p
logged_out (Some number) p = record p { sessions = map (session_without number) p.sessions }

-- the role at this place is assigned to the user, if there is one
abbrev pub assigned_at : Option ℕ → NameText → Policy → Policy
assigned_at None user p = p
assigned_at (Some place) user p = record p { users = map (user_assigned user place) p.users }

-- the role of this name is assigned to the user, if there is one
abbrev pub assigned : NameText → NameText → Policy → Policy
assigned user role p = assigned_at (place_of role p.roles) user p

-- the role at this place is taken from the user, if there is one
abbrev pub deassigned_at : Option ℕ → NameText → Policy → Policy
deassigned_at None user p = p
deassigned_at (Some place) user p = record p { users = map (user_deassigned user place) p.users }

-- the role of this name is taken from the user, if there is one
abbrev pub deassigned : NameText → NameText → Policy → Policy
deassigned user role p = deassigned_at (place_of role p.roles) user p

-- the pair is taken from the role at this place, if there is one
abbrev pub revoked_at : Option ℕ → Operation → Object → Policy → Policy
revoked_at None operation object p = p
revoked_at (Some place) operation object p = record p { grants = map (grant_revoked operation object place) p.grants }

-- the pair is taken from the role of this name, if there is one
abbrev pub revoked : NameText → Operation → Object → Policy → Policy
revoked role operation object p = revoked_at (place_of role p.roles) operation object p

-- the user goes, and its sessions end
abbrev pub user_deleted : NameText → Policy → Policy
user_deleted user p =
    record p { users = map (user_without user) p.users; sessions = map (session_of_other user) p.sessions }

-- the role at this place goes, with its assignments, permissions and edges, if there is one; the sweep ends the
-- sessions in which it is active
abbrev pub role_deleted_at : Option ℕ → Policy → Policy
role_deleted_at None p = p
role_deleted_at (Some place) p = record p {
  roles = slice_set p.roles place None;
  users = map (user_cleared place) p.users;
  grants = map (grant_cleared place) p.grants;
  juniors = role_cleared place p.juniors;
}

-- the role of this name goes
abbrev pub role_deleted : NameText → Policy → Policy
role_deleted role p = role_deleted_at (place_of role p.roles) p

-- an edge leads from the senior's place to the junior's, if both are there
abbrev pub inherited_at : Option ℕ → Option ℕ → Policy → Policy
inherited_at (Some senior) (Some junior) p = record p { juniors = edge_added senior junior p.juniors }
inherited_at _ _ p = p

-- an edge leads from the senior to the junior
abbrev pub inherited : NameText → NameText → Policy → Policy
inherited senior junior p = inherited_at (place_of senior p.roles) (place_of junior p.roles) p

-- no edge leads from the senior's place to the junior's, if both are there
abbrev pub disinherited_at : Option ℕ → Option ℕ → Policy → Policy
disinherited_at (Some senior) (Some junior) p = record p { juniors = edge_removed senior junior p.juniors }
disinherited_at _ _ p = p

-- no edge leads from the senior to the junior
abbrev pub disinherited : NameText → NameText → Policy → Policy
disinherited senior junior p = disinherited_at (place_of senior p.roles) (place_of junior p.roles) p

-- a separation set of this name, number and roles, made by the entry at this place
abbrev pub set_created : NameText → ℕ → List NameText → Policy → Policy
set_created set count roles p =
    record p
    { sets = put_free (record { name = set; count = count; roles = mask_of p.roles roles; place = p.version }) p.sets }

-- the separation set of this name goes
abbrev pub set_deleted : NameText → Policy → Policy
set_deleted set p = record p { sets = map (set_without set) p.sets }

-- the role at this place is active in the session, if both are there
abbrev pub role_activated_at : Option ℕ → Option ℕ → Policy → Policy
role_activated_at (Some number) (Some place) p = record p { sessions = map (session_activated number place) p.sessions }
role_activated_at _ _ p = p

-- the role is active in the session that gives the command
abbrev pub role_activated : Option ℕ → NameText → Policy → Policy
role_activated session role p = role_activated_at session (place_of role p.roles) p

-- the role at this place is active in the session no more, if both are there
abbrev pub role_dropped_at : Option ℕ → Option ℕ → Policy → Policy
role_dropped_at (Some number) (Some place) p = record p { sessions = map (session_dropped number place) p.sessions }
role_dropped_at _ _ p = p

-- the role is active in the session that gives the command no more
abbrev pub role_dropped : Option ℕ → NameText → Policy → Policy
role_dropped session role p = role_dropped_at session (place_of role p.roles) p

-- the change of the command, given by this session
abbrev pub changed_by : AdminCommand → Option ℕ → Policy → Policy
changed_by (AddUser name) session p = record p { users = put_free (record { name = name; roles = 0 }) p.users }
changed_by (AddRole name) session p = record p { roles = put_free name p.roles }
changed_by (AssignUser user role) session p = assigned user role p
changed_by (GrantPermission role operation object) session p = granted role operation object p
changed_by (CreateSession user roles) session p = logged_in user roles p
changed_by DeleteSession session p = logged_out session p
changed_by (DeleteUser user) session p = user_deleted user p
changed_by (DeleteRole role) session p = role_deleted role p
changed_by (DeassignUser user role) session p = deassigned user role p
changed_by (RevokePermission role operation object) session p = revoked role operation object p
changed_by (AddInheritance senior junior) session p = inherited senior junior p
changed_by (DeleteInheritance senior junior) session p = disinherited senior junior p
changed_by (CreateDsdSet set count roles) session p = set_created set count roles p
changed_by (DeleteDsdSet set) session p = set_deleted set p
changed_by (AddActiveRole role) session p = role_activated session role p
changed_by (DropActiveRole role) session p = role_dropped session role p

-- the change of the entry
abbrev pub changed : Policy → Entry → Policy
changed p entry = changed_by entry.command entry.session p

-- one more entry is counted, and each session ends that has a role for which its user is not authorized
abbrev pub swept : Policy → Policy
swept p =
    record p {
      version = (p.version + 1) % (LAST_VERSION + 1);
      sessions = map (session_kept p.users p.juniors) p.sessions;
    }

-- the policy after the entry
unfoldable pub absorbed : Policy → Entry → Policy
absorbed p entry = swept (changed p entry)

-- the policy of no entry
abbrev pub empty_policy : Policy
empty_policy = record {
  version = 0;
  logins = 0;
  users = replicate USERS None;
  roles = replicate ROLES None;
  juniors = replicate ROLES 0;
  grants = replicate GRANTS None;
  sessions = replicate SESSIONS None;
  sets = replicate SETS None;
}

-- the policy after these entries, taken in one by one from the policy of no entry
unfoldable pub policy_of : List Entry → Policy
policy_of entries = fold absorbed empty_policy entries
