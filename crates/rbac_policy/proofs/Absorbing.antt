-- A policy that stands for a list, and takes in an entry that fits, stands for the longer list.
use Rattle.std.proofs.Common.{◌≡◌, ℕ, ◌+◌, ◌<◌, ◌≤◌, ◌%◌, ◌⊎◌, List, [], ◌∷◌, ◌++◌, length, map, set, inl, inr, arith}
use Rattle.std.proofs.Common.{sym, ◌∙◌, ap, refl, subst, true, false, Bool}
use Rattle.std.specs.Prelude.{Option, Some, None, Contains, position, is_none}
use Rattle.std.specs.List.{list_any}
use Rattle.std.proofs.lemmas.Bool.{false≢true}
use Rattle.std.proofs.lemmas.List.{length_push, length-set}
use Rattle.std.proofs.lemmas.Option.{slice_get_within}
use Rattle.std.proofs.lemmas.Map.Keys.{any_passes_from_place}
use Rattle.rbac_policy.specs.declared.objects.Operation.{Operation}
use Rattle.rbac_policy.specs.declared.objects.Object.{Object}
use Rattle.rbac_policy.specs.declared.commands.AdminCommand.{AdminCommand}
use Rattle.rbac_policy.specs.declared.commands.AdminCommand.TheVariants.{AddUser, DeleteUser, AddRole, DeleteRole}
use Rattle.rbac_policy.specs.declared.commands.AdminCommand.TheVariants.{AssignUser, DeassignUser, GrantPermission}
use Rattle.rbac_policy.specs.declared.commands.AdminCommand.TheVariants.{RevokePermission, AddInheritance}
use Rattle.rbac_policy.specs.declared.commands.AdminCommand.TheVariants.{DeleteInheritance, CreateDsdSet, DeleteDsdSet}
use Rattle.rbac_policy.specs.declared.commands.AdminCommand.TheVariants.{CreateSession, DeleteSession, AddActiveRole}
use Rattle.rbac_policy.specs.declared.commands.AdminCommand.TheVariants.{DropActiveRole}
use Rattle.rbac_policy.specs.declared.commands.Entry.{Entry}
use Rattle.rbac_policy.specs.declared.rows.User.{User}
use Rattle.rbac_policy.specs.declared.rows.Session.{Session}
use Rattle.rbac_policy.specs.declared.rows.DsdSet.{DsdSet}
use Rattle.rbac_policy.specs.declared.policy.Policy.{Policy}
use Rattle.rbac_policy.specs.declared.sizes.TheConstants.{USERS, ROLES, GRANTS, SESSIONS, SETS, LAST_SESSION}
use Rattle.rbac_policy.specs.declared.sizes.TheConstants.{LAST_VERSION}
use Rattle.rbac_policy.specs.Names.{NameText}
use Rattle.rbac_policy.specs.Entries.{logins}
use Rattle.rbac_policy.specs.Facts.{IsUser, IsRole, IsSetName, IsPairGranted, IsLive}
use Rattle.rbac_policy.specs.Counting.{HasAtLeast}
use Rattle.rbac_policy.specs.Tables.{At, place_of, put_at, mask_of, session_without, grant_is}
use Rattle.rbac_policy.specs.Change.{absorbed, swept, changed, assigned_at, granted_at, deassigned_at, revoked_at}
use Rattle.rbac_policy.specs.Change.{user_deleted, role_deleted_at, inherited_at, disinherited_at, set_deleted}
use Rattle.rbac_policy.specs.Change.{role_activated_at, role_dropped_at}
use Rattle.rbac_policy.specs.Fits.{Fits, FitsCommand, FitsAddUser, FitsAddRole, FitsAssignUser, FitsGrantPermission}
use Rattle.rbac_policy.specs.Fits.{FitsCreateSession, FitsInheritance, FitsDeleteRole, FitsCreateDsdSet}
use Rattle.rbac_policy.specs.StandsFor.{StandsFor, UsersStand, RolesStand, GrantsStand, SetsStand}
use Rattle.rbac_policy.proofs.OfSessions.Ended.{Unswept, swept_stand}
use Rattle.rbac_policy.proofs.Untouched.{untouched_users, untouched_roles, untouched_grants, untouched_sessions}
use Rattle.rbac_policy.proofs.Untouched.{untouched_sets, logins_push, logins_other}
use Rattle.rbac_policy.proofs.OfSlots.Slots.{free}
use Rattle.rbac_policy.proofs.OfNames.Equality.{operations}
use Rattle.rbac_policy.specs.Inner.ObjectLaws.{objects, both}
use Rattle.rbac_policy.proofs.OfSlots.Room.{room, keeps_users, keeps_roles, keeps_grants, keeps_sessions, keeps_sets}
use Rattle.rbac_policy.proofs.OfSlots.Room.{pair_of}
use Rattle.rbac_policy.proofs.OfRoles.Listed.{Placed, placed}
use Rattle.rbac_policy.proofs.OfUsers.Adding.{adding}
use Rattle.rbac_policy.proofs.OfUsers.Assigning.{assigning}
use Rattle.rbac_policy.proofs.OfRoles.Naming.{added_mask, added_named, added_role, unique_added, renamed_users}
use Rattle.rbac_policy.proofs.OfRoles.Naming.{renamed_grants, renamed_sessions}
use Rattle.rbac_policy.proofs.OfGrants.Granting.{granting}
use Rattle.rbac_policy.proofs.OfGrants.Revoking.{revoking}
use Rattle.rbac_policy.proofs.OfUsers.Deassigning.{deassigning, removing, ended_unswept}
use Rattle.rbac_policy.proofs.OfRoles.Inheriting.{inheriting, disinheriting}
use Rattle.rbac_policy.proofs.OfRoles.Deleting.{before_deletion, users_deleted, roles_deleted, grants_deleted}
use Rattle.rbac_policy.proofs.OfRoles.Deleting.{sets_deleted}
use Rattle.rbac_policy.proofs.OfSeparation.Separating.{renamed_sets, created, removed}
use Rattle.rbac_policy.proofs.OfSessions.Activating.{take_unswept, drop_unswept}
use Rattle.rbac_policy.proofs.OfSessions.Sessions.{login_unswept, logout_unswept}

-- the parts of the changed policy, and the sweep, make the whole; the sessions' masks are by the names of the table
-- before
assemble_renamed : (before : List (Option NameText)) (target : Policy) (L : List Entry) (e : Entry)
    → ((q : ℕ) (r : NameText) → At target.roles q r → At before q r)
    → target.version ≡ length L → length L < LAST_VERSION → target.logins ≡ logins (L ++ e ∷ [])
    → UsersStand target.roles target.users (L ++ e ∷ []) → RolesStand target.roles target.juniors (L ++ e ∷ [])
    → GrantsStand target.roles target.grants (L ++ e ∷ [])
    → Unswept before target.sessions L e → SetsStand target.roles target.sets (L ++ e ∷ [])
    → StandsFor (swept target) (L ++ e ∷ [])
assemble_renamed before target L e keeps version few count us rs gs un ss = record {
  version = omega (arith, version, few, length_push L e);
  logins = count;
  users = us;
  roles = rs;
  grants = gs;
  sessions = swept_stand before target.roles keeps target.juniors target.users target.sessions L e rs us un;
  sets = ss;
}

-- where the table of roles is as it was
assemble : (target : Policy) (L : List Entry) (e : Entry) → target.version ≡ length L → length L < LAST_VERSION
    → target.logins ≡ logins (L ++ e ∷ [])
    → UsersStand target.roles target.users (L ++ e ∷ []) → RolesStand target.roles target.juniors (L ++ e ∷ [])
    → GrantsStand target.roles target.grants (L ++ e ∷ [])
    → Unswept target.roles target.sessions L e → SetsStand target.roles target.sets (L ++ e ∷ [])
    → StandsFor (swept target) (L ++ e ∷ [])
assemble target L e = assemble_renamed target.roles target L e (λ q r t. t)

-- the role that is a role has a place
role_place : (p : Policy) (L : List Entry) (role : NameText) → StandsFor p L → IsRole L role → Placed p.roles role
role_place p L role st is =
    let h = (st.roles.exist role).0 is in
    placed p.roles h.at role (subst (At p.roles h.at) h.fact h.there)

add_user : (p : Policy) (L : List Entry) (s : Option ℕ) (user : NameText) → StandsFor p L → length L < LAST_VERSION
    → FitsAddUser L user
    → StandsFor (swept (changed p (record { session = s; command = AddUser user })))
    (L ++ record { session = s; command = AddUser user } ∷ [])
add_user p L s user st few fits =
    let e : Entry = record { session = s; command = AddUser user } in
    let the_new : User = record { name = user; roles = 0 } in
    let place = room (λ (x : User). x.name) p.users (IsUser L) USERS
    (keeps_users p.roles p.users L st.users) st.users.places fits.room in
    let i = place.0 in
    let target : Policy = record p { users = set p.users i (Some the_new) } in
    let is : changed p e ≡ target =
    ap (λ (o : Option ℕ). let z : Policy = record p { users = put_at the_new p.users o } in z) place.1 in
    subst (λ (t : Policy). StandsFor (swept t) (L ++ e ∷ [])) (sym is) (assemble target L e st.version few
    (st.logins ∙ sym (logins_other L e refl))
    (adding p.roles p.users L s user st.users fits.absent i (free p.users i place.1))
    (untouched_roles p.roles p.juniors L e refl st.roles)
    (untouched_grants p.roles p.grants L e refl st.grants)
    (untouched_sessions p.roles p.sessions L e refl (logins_other L e refl) st.roles.unique st.roles.places st.sessions)
    (untouched_sets p.roles p.sets L e refl st.sets))

add_role : (p : Policy) (L : List Entry) (s : Option ℕ) (role : NameText) → StandsFor p L → length L < LAST_VERSION
    → FitsAddRole L role
    → StandsFor (swept (changed p (record { session = s; command = AddRole role })))
    (L ++ record { session = s; command = AddRole role } ∷ [])
add_role p L s role st few fits =
    let e : Entry = record { session = s; command = AddRole role } in
    let place = room (λ (x : NameText). x) p.roles (IsRole L) ROLES
    (keeps_roles p.roles p.juniors L st.roles) st.roles.places fits.room in
    let i = place.0 in
    let fr = free p.roles i place.1 in
    let before = p.roles in
    let after = set p.roles i (Some role) in
    let same = added_mask before role i fr in
    let named = added_named before role i fr in
    let target : Policy = record p { roles = after } in
    let is : changed p e ≡ target =
    ap (λ (o : Option ℕ). let z : Policy = record p { roles = put_at role p.roles o } in z) place.1 in
    subst (λ (t : Policy). StandsFor (swept t) (L ++ e ∷ [])) (sym is) (assemble target L e st.version few
    (st.logins ∙ sym (logins_other L e refl))
    (renamed_users before after p.users (L ++ e ∷ []) same named (untouched_users before p.users L e refl st.users))
    (added_role before p.juniors L s role st.roles fits.absent i fr)
    (renamed_grants before after p.grants (L ++ e ∷ []) same named
    (untouched_grants before p.grants L e refl st.grants))
    (renamed_sessions before after p.sessions L e same named
    (unique_added before p.juniors L s role st.roles fits.absent i fr)
    (length-set before i (Some role) ∙ st.roles.places)
    (untouched_sessions before p.sessions L e refl (logins_other L e refl) st.roles.unique st.roles.places st.sessions))
    (renamed_sets before after p.sets (L ++ e ∷ []) (λ at x there. same x.roles (st.sets.named at x there))
    (λ at x there. named x.roles (st.sets.named at x there))
    (untouched_sets before p.sets L e refl st.sets)))

assign : (p : Policy) (L : List Entry) (s : Option ℕ) (user role : NameText) → StandsFor p L → length L < LAST_VERSION
    → FitsAssignUser L user role
    → StandsFor (swept (changed p (record { session = s; command = AssignUser user role })))
    (L ++ record { session = s; command = AssignUser user role } ∷ [])
assign p L s user role st few fits =
    let e : Entry = record { session = s; command = AssignUser user role } in
    let q = role_place p L role st fits.is_role in
    let low : q.place < ROLES = omega (arith, slice_get_within p.roles q.place (Some role) q.there, st.roles.places) in
    let is : changed p e ≡ assigned_at (Some q.place) user p = ap (λ o. assigned_at o user p) q.found in
    subst (λ (t : Policy). StandsFor (swept t) (L ++ e ∷ [])) (sym is)
    (assemble (assigned_at (Some q.place) user p) L e st.version few
    (st.logins ∙ sym (logins_other L e refl))
    (assigning p.roles st.roles.unique q.place role q.there low p.users L s user st.users fits.is_user)
    (untouched_roles p.roles p.juniors L e refl st.roles)
    (untouched_grants p.roles p.grants L e refl st.grants)
    (untouched_sessions p.roles p.sessions L e refl (logins_other L e refl) st.roles.unique st.roles.places st.sessions)
    (untouched_sets p.roles p.sets L e refl st.sets))

-- the pair has a row, or there is a free one
row_or_room : (p : Policy) (L : List Entry) (op : Operation) (ob : Object) → StandsFor p L
    → ((IsPairGranted L op ob → ⊥) → HasAtLeast {A = Operation × Object} GRANTS (λ pair. IsPairGranted L pair.0 pair.1)
    → ⊥)
    → (list_any (grant_is op ob) p.grants ≡ true) ⊎ ((i : ℕ) × (position is_none p.grants ≡ Some i))
row_or_room p L op ob st few = by_test (list_any (grant_is op ob) p.grants) refl where
  by_test : (b : Bool) → list_any (grant_is op ob) p.grants ≡ b
      → (list_any (grant_is op ob) p.grants ≡ true) ⊎ ((i : ℕ) × (position is_none p.grants ≡ Some i))
  by_test true e = inl e
  by_test false e =
      inr (room pair_of p.grants (λ pair. IsPairGranted L pair.0 pair.1) GRANTS
      (keeps_grants p.roles p.grants L st.grants) st.grants.places (few (λ g.
      let h = st.grants.only_pairs g.0 op ob g.1 in
      false≢true
      (sym e ∙ any_passes_from_place (grant_is op ob) p.grants h.at (Some h.value) h.there
      ((both _ _ _ _ (operations h.value.operation op) (objects h.value.object ob)).1 h.fact)))))

grant : (p : Policy) (L : List Entry) (s : Option ℕ) (role : NameText) (op : Operation) (ob : Object) → StandsFor p L
    → length L < LAST_VERSION → FitsGrantPermission L role op ob
    → StandsFor (swept (changed p (record { session = s; command = GrantPermission role op ob })))
    (L ++ record { session = s; command = GrantPermission role op ob } ∷ [])
grant p L s role op ob st few fits =
    let e : Entry = record { session = s; command = GrantPermission role op ob } in
    let q = role_place p L role st fits.is_role in
    let low : q.place < ROLES = omega (arith, slice_get_within p.roles q.place (Some role) q.there, st.roles.places) in
    let is : changed p e ≡ granted_at (Some q.place) op ob p = ap (λ o. granted_at o op ob p) q.found in
    subst (λ (t : Policy). StandsFor (swept t) (L ++ e ∷ [])) (sym is)
    (assemble (granted_at (Some q.place) op ob p) L e st.version few
    (st.logins ∙ sym (logins_other L e refl))
    (untouched_users p.roles p.users L e refl st.users)
    (untouched_roles p.roles p.juniors L e refl st.roles)
    (granting p.roles st.roles.unique q.place role q.there low p.grants L s op ob st.grants
    (row_or_room p L op ob st fits.room))
    (untouched_sessions p.roles p.sessions L e refl (logins_other L e refl) st.roles.unique st.roles.places st.sessions)
    (untouched_sets p.roles p.sets L e refl st.sets))

login : (p : Policy) (L : List Entry) (user : NameText) (listed : List NameText) → StandsFor p L
    → length L < LAST_VERSION → FitsCreateSession L None listed
    → StandsFor (swept (changed p (record { session = None; command = CreateSession user listed })))
    (L ++ record { session = None; command = CreateSession user listed } ∷ [])
login p L user listed st few fits =
    let e : Entry = record { session = None; command = CreateSession user listed } in
    let number : (p.logins + 1) % (LAST_SESSION + 1) ≡ logins L + 1 = omega (arith, st.logins, fits.numbers) in
    let place = room (λ (x : Session). x.number) p.sessions (IsLive L) SESSIONS
    (keeps_sessions p.roles p.sessions L st.sessions) st.sessions.places fits.room in
    let i = place.0 in
    let fr = free p.sessions i place.1 in
    let known : (r : NameText) → Contains listed r → (q : ℕ) × At p.roles q r = λ r c. let h =
    (st.roles.exist r).0 (fits.are_roles r c) in (h.at, subst (At p.roles h.at) h.fact h.there) in
    let session = λ (n : ℕ). let z : Session = record { number = n; user = user; active = mask_of p.roles listed } in
    z in
    let target : Policy =
    record p { logins = logins L + 1; sessions = set p.sessions i (Some (session (logins L + 1))) } in
    let is : changed p e ≡ target =
    ap (λ (n : ℕ). let z : Policy = record p {
      logins = n;
      sessions = put_at (session n) p.sessions (position is_none p.sessions);
    } in z) number
    ∙ ap (λ (o : Option ℕ). let z : Policy = record p {
      logins = logins L + 1;
      sessions = put_at (session (logins L + 1)) p.sessions o;
    } in z) place.1 in
    subst (λ (t : Policy). StandsFor (swept t) (L ++ e ∷ [])) (sym is) (assemble target L e st.version few
    (sym (logins_push L e))
    (untouched_users p.roles p.users L e refl st.users)
    (untouched_roles p.roles p.juniors L e refl st.roles)
    (untouched_grants p.roles p.grants L e refl st.grants)
    (login_unswept p.roles st.roles.unique st.roles.places p.sessions L st.sessions user listed known i fr)
    (untouched_sets p.roles p.sets L e refl st.sets))

logout : (p : Policy) (L : List Entry) (k : ℕ) → StandsFor p L → length L < LAST_VERSION
    → StandsFor (swept (changed p (record { session = Some k; command = DeleteSession })))
    (L ++ record { session = Some k; command = DeleteSession } ∷ [])
logout p L k st few =
    let e : Entry = record { session = Some k; command = DeleteSession } in
    let target : Policy = record p { sessions = map (session_without k) p.sessions } in
    assemble target L e st.version few
    (st.logins ∙ sym (logins_other L e refl))
    (untouched_users p.roles p.users L e refl st.users)
    (untouched_roles p.roles p.juniors L e refl st.roles)
    (untouched_grants p.roles p.grants L e refl st.grants)
    (logout_unswept p.roles st.roles.unique st.roles.places p.sessions L st.sessions k)
    (untouched_sets p.roles p.sets L e refl st.sets)

-- a session that lives was made
made_before : (p : Policy) (L : List Entry) (k : ℕ) → StandsFor p L → IsLive L k → k ≤ logins L
made_before p L k st live =
    let h = (st.sessions.exist k live.0).0 live.1 in
    subst (λ n. n ≤ logins L) h.fact.0 (st.sessions.numbers h.at h.value h.there)

activate_role : (p : Policy) (L : List Entry) (k : ℕ) (role : NameText) → StandsFor p L → length L < LAST_VERSION
    → IsLive L k
    → IsRole L role
    → StandsFor (swept (changed p (record { session = Some k; command = AddActiveRole role })))
    (L ++ record { session = Some k; command = AddActiveRole role } ∷ [])
activate_role p L k role st few live is_role =
    let e : Entry = record { session = Some k; command = AddActiveRole role } in
    let q = role_place p L role st is_role in
    let low : q.place < ROLES = omega (arith, slice_get_within p.roles q.place (Some role) q.there, st.roles.places) in
    let is : changed p e ≡ role_activated_at (Some k) (Some q.place) p =
    ap (λ o. role_activated_at (Some k) o p) q.found in
    subst (λ (t : Policy). StandsFor (swept t) (L ++ e ∷ [])) (sym is)
    (assemble (role_activated_at (Some k) (Some q.place) p) L e st.version few
    (st.logins ∙ sym (logins_other L e refl))
    (untouched_users p.roles p.users L e refl st.users)
    (untouched_roles p.roles p.juniors L e refl st.roles)
    (untouched_grants p.roles p.grants L e refl st.grants)
    (take_unswept p.roles st.roles.unique st.roles.places q.place role q.there low p.sessions L k st.sessions
    (made_before p L k st live))
    (untouched_sets p.roles p.sets L e refl st.sets))

drop_role : (p : Policy) (L : List Entry) (k : ℕ) (role : NameText) → StandsFor p L → length L < LAST_VERSION
    → IsRole L role
    → StandsFor (swept (changed p (record { session = Some k; command = DropActiveRole role })))
    (L ++ record { session = Some k; command = DropActiveRole role } ∷ [])
drop_role p L k role st few is_role =
    let e : Entry = record { session = Some k; command = DropActiveRole role } in
    let q = role_place p L role st is_role in
    let low : q.place < ROLES = omega (arith, slice_get_within p.roles q.place (Some role) q.there, st.roles.places) in
    let is : changed p e ≡ role_dropped_at (Some k) (Some q.place) p = ap (λ o. role_dropped_at (Some k) o p) q.found in
    subst (λ (t : Policy). StandsFor (swept t) (L ++ e ∷ [])) (sym is)
    (assemble (role_dropped_at (Some k) (Some q.place) p) L e st.version few
    (st.logins ∙ sym (logins_other L e refl))
    (untouched_users p.roles p.users L e refl st.users)
    (untouched_roles p.roles p.juniors L e refl st.roles)
    (untouched_grants p.roles p.grants L e refl st.grants)
    (drop_unswept p.roles st.roles.unique st.roles.places q.place role q.there low p.sessions L k st.sessions)
    (untouched_sets p.roles p.sets L e refl st.sets))

deassign : (p : Policy) (L : List Entry) (s : Option ℕ) (user role : NameText) → StandsFor p L → length L < LAST_VERSION
    → IsRole L role
    → StandsFor (swept (changed p (record { session = s; command = DeassignUser user role })))
    (L ++ record { session = s; command = DeassignUser user role } ∷ [])
deassign p L s user role st few is_role =
    let e : Entry = record { session = s; command = DeassignUser user role } in
    let q = role_place p L role st is_role in
    let low : q.place < ROLES = omega (arith, slice_get_within p.roles q.place (Some role) q.there, st.roles.places) in
    let is : changed p e ≡ deassigned_at (Some q.place) user p = ap (λ o. deassigned_at o user p) q.found in
    subst (λ (t : Policy). StandsFor (swept t) (L ++ e ∷ [])) (sym is)
    (assemble (deassigned_at (Some q.place) user p) L e st.version few
    (st.logins ∙ sym (logins_other L e refl))
    (deassigning p.roles st.roles.unique q.place role q.there low p.users L s user st.users)
    (untouched_roles p.roles p.juniors L e refl st.roles)
    (untouched_grants p.roles p.grants L e refl st.grants)
    (untouched_sessions p.roles p.sessions L e refl (logins_other L e refl) st.roles.unique st.roles.places st.sessions)
    (untouched_sets p.roles p.sets L e refl st.sets))

revoke : (p : Policy) (L : List Entry) (s : Option ℕ) (role : NameText) (op : Operation) (ob : Object) → StandsFor p L
    → length L < LAST_VERSION → IsRole L role
    → StandsFor (swept (changed p (record { session = s; command = RevokePermission role op ob })))
    (L ++ record { session = s; command = RevokePermission role op ob } ∷ [])
revoke p L s role op ob st few is_role =
    let e : Entry = record { session = s; command = RevokePermission role op ob } in
    let q = role_place p L role st is_role in
    let low : q.place < ROLES = omega (arith, slice_get_within p.roles q.place (Some role) q.there, st.roles.places) in
    let is : changed p e ≡ revoked_at (Some q.place) op ob p = ap (λ o. revoked_at o op ob p) q.found in
    subst (λ (t : Policy). StandsFor (swept t) (L ++ e ∷ [])) (sym is)
    (assemble (revoked_at (Some q.place) op ob p) L e st.version few
    (st.logins ∙ sym (logins_other L e refl))
    (untouched_users p.roles p.users L e refl st.users)
    (untouched_roles p.roles p.juniors L e refl st.roles)
    (revoking p.roles st.roles.unique q.place role q.there low p.grants L s op ob st.grants)
    (untouched_sessions p.roles p.sessions L e refl (logins_other L e refl) st.roles.unique st.roles.places st.sessions)
    (untouched_sets p.roles p.sets L e refl st.sets))

delete_user : (p : Policy) (L : List Entry) (s : Option ℕ) (user : NameText) → StandsFor p L → length L < LAST_VERSION
    → StandsFor (swept (changed p (record { session = s; command = DeleteUser user })))
    (L ++ record { session = s; command = DeleteUser user } ∷ [])
delete_user p L s user st few =
    let e : Entry = record { session = s; command = DeleteUser user } in
    assemble (user_deleted user p) L e st.version few
    (st.logins ∙ sym (logins_other L e refl))
    (removing p.roles L s user p.users st.users)
    (untouched_roles p.roles p.juniors L e refl st.roles)
    (untouched_grants p.roles p.grants L e refl st.grants)
    (ended_unswept p.roles L s user st.roles.unique st.roles.places p.sessions st.sessions)
    (untouched_sets p.roles p.sets L e refl st.sets)

inherit : (p : Policy) (L : List Entry) (s : Option ℕ) (senior junior : NameText) → StandsFor p L
    → length L < LAST_VERSION → FitsInheritance L senior junior
    → StandsFor (swept (changed p (record { session = s; command = AddInheritance senior junior })))
    (L ++ record { session = s; command = AddInheritance senior junior } ∷ [])
inherit p L s senior junior st few fits =
    let e : Entry = record { session = s; command = AddInheritance senior junior } in
    let a = role_place p L senior st fits.is_senior in
    let b = role_place p L junior st fits.is_junior in
    let is : changed p e ≡ inherited_at (Some a.place) (Some b.place) p =
    ap (λ o. inherited_at o (place_of junior p.roles) p) a.found
    ∙ ap (λ o. inherited_at (Some a.place) o p) b.found in
    subst (λ (t : Policy). StandsFor (swept t) (L ++ e ∷ [])) (sym is)
    (assemble (inherited_at (Some a.place) (Some b.place) p) L e st.version few
    (st.logins ∙ sym (logins_other L e refl))
    (untouched_users p.roles p.users L e refl st.users)
    (inheriting p.roles p.juniors L s a.place senior a.there b.place junior b.there st.roles)
    (untouched_grants p.roles p.grants L e refl st.grants)
    (untouched_sessions p.roles p.sessions L e refl (logins_other L e refl) st.roles.unique st.roles.places st.sessions)
    (untouched_sets p.roles p.sets L e refl st.sets))

disinherit : (p : Policy) (L : List Entry) (s : Option ℕ) (senior junior : NameText) → StandsFor p L
    → length L < LAST_VERSION → FitsInheritance L senior junior
    → StandsFor (swept (changed p (record { session = s; command = DeleteInheritance senior junior })))
    (L ++ record { session = s; command = DeleteInheritance senior junior } ∷ [])
disinherit p L s senior junior st few fits =
    let e : Entry = record { session = s; command = DeleteInheritance senior junior } in
    let a = role_place p L senior st fits.is_senior in
    let b = role_place p L junior st fits.is_junior in
    let is : changed p e ≡ disinherited_at (Some a.place) (Some b.place) p =
    ap (λ o. disinherited_at o (place_of junior p.roles) p) a.found
    ∙ ap (λ o. disinherited_at (Some a.place) o p) b.found in
    subst (λ (t : Policy). StandsFor (swept t) (L ++ e ∷ [])) (sym is)
    (assemble (disinherited_at (Some a.place) (Some b.place) p) L e st.version few
    (st.logins ∙ sym (logins_other L e refl))
    (untouched_users p.roles p.users L e refl st.users)
    (disinheriting p.roles p.juniors L s a.place senior a.there b.place junior b.there st.roles)
    (untouched_grants p.roles p.grants L e refl st.grants)
    (untouched_sessions p.roles p.sessions L e refl (logins_other L e refl) st.roles.unique st.roles.places st.sessions)
    (untouched_sets p.roles p.sets L e refl st.sets))

delete_role : (p : Policy) (L : List Entry) (s : Option ℕ) (role : NameText) → StandsFor p L → length L < LAST_VERSION
    → FitsDeleteRole L role
    → StandsFor (swept (changed p (record { session = s; command = DeleteRole role })))
    (L ++ record { session = s; command = DeleteRole role } ∷ [])
delete_role p L s role st few fits =
    let e : Entry = record { session = s; command = DeleteRole role } in
    let q = role_place p L role st fits.is_role in
    let is : changed p e ≡ role_deleted_at (Some q.place) p = ap (λ o. role_deleted_at o p) q.found in
    subst (λ (t : Policy). StandsFor (swept t) (L ++ e ∷ [])) (sym is)
    (assemble_renamed p.roles (role_deleted_at (Some q.place) p) L e
    (λ k r there. (before_deletion p.roles p.juniors L s q.place role q.there st.roles k r there).0) st.version few
    (st.logins ∙ sym (logins_other L e refl))
    (users_deleted p.roles p.juniors L s q.place role q.there st.roles p.users st.users)
    (roles_deleted p.roles p.juniors L s q.place role q.there st.roles)
    (grants_deleted p.roles p.juniors L s q.place role q.there st.roles p.grants st.grants)
    (untouched_sessions p.roles p.sessions L e refl (logins_other L e refl) st.roles.unique st.roles.places st.sessions)
    (sets_deleted p.roles p.juniors L s q.place role q.there st.roles p.sets st.sets fits.in_no_set))

create_set : (p : Policy) (L : List Entry) (s : Option ℕ) (name : NameText) (count : ℕ) (listed : List NameText)
    → StandsFor p L → length L < LAST_VERSION → FitsCreateDsdSet L name listed
    → StandsFor (swept (changed p (record { session = s; command = CreateDsdSet name count listed })))
    (L ++ record { session = s; command = CreateDsdSet name count listed } ∷ [])
create_set p L s name count listed st few fits =
    let e : Entry = record { session = s; command = CreateDsdSet name count listed } in
    let place = room (λ (x : DsdSet). x.name) p.sets (IsSetName L) SETS
    (keeps_sets p.roles p.sets L st.sets) st.sets.places fits.room in
    let i = place.0 in
    let fr = free p.sets i place.1 in
    let known : (r : NameText) → Contains listed r → (q : ℕ) × At p.roles q r = λ r c. let h =
    (st.roles.exist r).0 (fits.are_roles r c) in (h.at, subst (At p.roles h.at) h.fact h.there) in
    let row = λ (n : ℕ). let z : DsdSet =
    record { name = name; count = count; roles = mask_of p.roles listed; place = n } in z in
    let target : Policy = record p { sets = set p.sets i (Some (row (length L))) } in
    let is : changed p e ≡ target =
    ap (λ (n : ℕ). let z : Policy = record p { sets = put_at (row n) p.sets (position is_none p.sets) } in z) st.version
    ∙ ap (λ (o : Option ℕ). let z : Policy = record p { sets = put_at (row (length L)) p.sets o } in z) place.1 in
    subst (λ (t : Policy). StandsFor (swept t) (L ++ e ∷ [])) (sym is) (assemble target L e st.version few
    (st.logins ∙ sym (logins_other L e refl))
    (untouched_users p.roles p.users L e refl st.users)
    (untouched_roles p.roles p.juniors L e refl st.roles)
    (untouched_grants p.roles p.grants L e refl st.grants)
    (untouched_sessions p.roles p.sessions L e refl (logins_other L e refl) st.roles.unique st.roles.places st.sessions)
    (created p.roles st.roles.unique st.roles.places p.sets L s name st.sets count listed known fits.absent i fr))

delete_set : (p : Policy) (L : List Entry) (s : Option ℕ) (name : NameText) → StandsFor p L → length L < LAST_VERSION
    → StandsFor (swept (changed p (record { session = s; command = DeleteDsdSet name })))
    (L ++ record { session = s; command = DeleteDsdSet name } ∷ [])
delete_set p L s name st few =
    let e : Entry = record { session = s; command = DeleteDsdSet name } in
    assemble (set_deleted name p) L e st.version few
    (st.logins ∙ sym (logins_other L e refl))
    (untouched_users p.roles p.users L e refl st.users)
    (untouched_roles p.roles p.juniors L e refl st.roles)
    (untouched_grants p.roles p.grants L e refl st.grants)
    (untouched_sessions p.roles p.sessions L e refl (logins_other L e refl) st.roles.unique st.roles.places st.sessions)
    (removed p.roles st.roles.unique st.roles.places p.sets L s name st.sets)

by_command : (p : Policy) (L : List Entry) (s : Option ℕ) (c : AdminCommand) → StandsFor p L → length L < LAST_VERSION
    → FitsCommand c s L
    → StandsFor (swept (changed p (record { session = s; command = c })))
    (L ++ record { session = s; command = c } ∷ [])
by_command p L s (AddUser user) st few fits = add_user p L s user st few fits
by_command p L s (AddRole role) st few fits = add_role p L s role st few fits
by_command p L s (AssignUser user role) st few fits = assign p L s user role st few fits
by_command p L s (GrantPermission role op ob) st few fits = grant p L s role op ob st few fits
by_command p L s (CreateSession user roles) st few fits =
    let P : Option ℕ → Type 0 = λ o. FitsCreateSession L o roles
    → StandsFor (swept (changed p (record { session = o; command = CreateSession user roles })))
    (L ++ record { session = o; command = CreateSession user roles } ∷ []) in
    subst P (sym fits.by_none) (λ f. login p L user roles st few f) fits
by_command p L s DeleteSession st few fits =
    let P : Option ℕ → Type 0 = λ o. StandsFor (swept (changed p (record { session = o; command = DeleteSession })))
    (L ++ record { session = o; command = DeleteSession } ∷ []) in
    subst P (sym fits.given) (logout p L fits.number st few)
by_command p L s (DeleteUser user) st few fits = delete_user p L s user st few
by_command p L s (DeleteRole role) st few fits = delete_role p L s role st few fits
by_command p L s (DeassignUser user role) st few fits = deassign p L s user role st few fits
by_command p L s (RevokePermission role op ob) st few fits = revoke p L s role op ob st few fits
by_command p L s (AddInheritance senior junior) st few fits = inherit p L s senior junior st few fits
by_command p L s (DeleteInheritance senior junior) st few fits = disinherit p L s senior junior st few fits
by_command p L s (CreateDsdSet name count listed) st few fits = create_set p L s name count listed st few fits
by_command p L s (DeleteDsdSet name) st few fits = delete_set p L s name st few
by_command p L s (AddActiveRole role) st few fits =
    let P : Option ℕ
    → Type 0 = λ o. StandsFor (swept (changed p (record { session = o; command = AddActiveRole role })))
    (L ++ record { session = o; command = AddActiveRole role } ∷ []) in
    subst P (sym fits.given) (activate_role p L fits.number role st few fits.lives fits.is_role)
by_command p L s (DropActiveRole role) st few fits =
    let P : Option ℕ
    → Type 0 = λ o. StandsFor (swept (changed p (record { session = o; command = DropActiveRole role })))
    (L ++ record { session = o; command = DropActiveRole role } ∷ []) in
    subst P (sym fits.given) (drop_role p L fits.number role st few fits.is_role)

-- the law
pub stands_after : (p : Policy) (L : List Entry) (e : Entry) → StandsFor p L → Fits L e
    → StandsFor (absorbed p e) (L ++ e ∷ [])
unfolding absorbed
stands_after p L e st fits = by_command p L e.session e.command st fits.few fits.command
