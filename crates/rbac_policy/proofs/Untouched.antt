-- What a command leaves alone.
use Rattle.std.proofs.Common.{◌≡◌, ℕ, ◌+◌, ◌≤◌, ◌⊎◌, ◌↔◌, Bool, true, false, List, [], ◌∷◌, ◌++◌, length, inl, inr, sym}
use Rattle.std.proofs.Common.{◌∙◌, ap, subst, refl, cond, add-zero}
use Rattle.std.specs.Prelude.{Option}
use Rattle.std.proofs.lemmas.Bool.{false≢true}
use Rattle.std.proofs.lemmas.List.Sums.{fold_push}
use Rattle.rbac_policy.specs.declared.sizes.TheConstants.{ROLES}
use Rattle.rbac_policy.specs.declared.objects.Operation.{Operation}
use Rattle.rbac_policy.specs.declared.objects.Object.{Object}
use Rattle.rbac_policy.specs.declared.commands.AdminCommand.{AdminCommand}
use Rattle.rbac_policy.specs.declared.commands.AdminCommand.TheVariants.{AddUser, DeleteUser, AddRole, DeleteRole}
use Rattle.rbac_policy.specs.declared.commands.AdminCommand.TheVariants.{AssignUser, DeassignUser, GrantPermission}
use Rattle.rbac_policy.specs.declared.commands.AdminCommand.TheVariants.{RevokePermission, AddInheritance}
use Rattle.rbac_policy.specs.declared.commands.AdminCommand.TheVariants.{DeleteInheritance, CreateDsdSet, DeleteDsdSet}
use Rattle.rbac_policy.specs.declared.commands.AdminCommand.TheVariants.{CreateSession, DeleteSession, AddActiveRole}
use Rattle.rbac_policy.specs.declared.commands.AdminCommand.TheVariants.{DropActiveRole}
use Rattle.rbac_policy.specs.declared.commands.Entry.{Entry}
use Rattle.rbac_policy.specs.declared.rows.User.{User}
use Rattle.rbac_policy.specs.declared.rows.Grant.{Grant}
use Rattle.rbac_policy.specs.declared.rows.Session.{Session}
use Rattle.rbac_policy.specs.declared.rows.DsdSet.{DsdSet}
use Rattle.rbac_policy.specs.Entries.{InForce, logins, is_login}
use Rattle.rbac_policy.specs.Facts.{IsUser, IsRole, IsSet, IsAssigned, IsGranted, IsEdge, IsActive, Lives}
use Rattle.rbac_policy.specs.Tables.{At}
use Rattle.rbac_policy.specs.StandsFor.{UsersStand, RolesStand, GrantsStand, SessionsStand, SetsStand}
use Rattle.rbac_policy.specs.Names.{NameText}
use Rattle.rbac_policy.proofs.Steps.{in_force_push}
use Rattle.rbac_policy.proofs.OfSessions.Lives.{Remains}
use Rattle.rbac_policy.proofs.OfSessions.Ended.{Unswept}

pub through : {A B C : Type 0} → A ↔ B → B ↔ C → A ↔ C
through f g = (λ a. g.0 (f.0 a), λ c. f.1 (g.1 c))

-- an entry that neither makes nor undoes a fact leaves it
pub untouched : (M : List Entry → Entry → Type 0) (U : Entry → Type 0) (L : List Entry) (e : Entry) → (M L e → ⊥)
    → (U e → ⊥) → InForce M U (L ++ e ∷ []) ↔ InForce M U L
untouched M U L e m u = (
  λ s. elim ((in_force_push M U L e).0 s) [ inl h ↦ absurd (m h) | inr h ↦ h.0 ],
  λ s. (in_force_push M U L e).1 (inr (s, u)),
)

abbrev pub touches_users : AdminCommand → Bool
touches_users (AddUser a) = true
touches_users (DeleteUser a) = true
touches_users (AssignUser a b) = true
touches_users (DeassignUser a b) = true
touches_users (DeleteRole a) = true
touches_users _ = false

abbrev pub touches_roles : AdminCommand → Bool
touches_roles (AddRole a) = true
touches_roles (DeleteRole a) = true
touches_roles (AddInheritance a b) = true
touches_roles (DeleteInheritance a b) = true
touches_roles _ = false

abbrev pub touches_grants : AdminCommand → Bool
touches_grants (GrantPermission a b c) = true
touches_grants (RevokePermission a b c) = true
touches_grants (DeleteRole a) = true
touches_grants _ = false

abbrev pub touches_sessions : AdminCommand → Bool
touches_sessions (CreateSession a b) = true
touches_sessions DeleteSession = true
touches_sessions (DeleteUser a) = true
touches_sessions (AddActiveRole a) = true
touches_sessions (DropActiveRole a) = true
touches_sessions _ = false

abbrev pub touches_sets : AdminCommand → Bool
touches_sets (CreateDsdSet a b c) = true
touches_sets (DeleteDsdSet a) = true
touches_sets _ = false

pub not_by : (test : AdminCommand → Bool) (a b : AdminCommand) → test a ≡ false → test b ≡ true → a ≡ b → ⊥
not_by test a b no_a yes_b same = false≢true (sym no_a ∙ ap test same ∙ yes_b)

pub untouched_users : (roles : List (Option NameText)) (users : List (Option User)) (L : List Entry) (e : Entry)
    → touches_users e.command ≡ false → UsersStand roles users L → UsersStand roles users (L ++ e ∷ [])
untouched_users roles users L e no_touch s =
    let out = λ (c : AdminCommand) (t : touches_users c ≡ true)
    (h : e.command ≡ c). not_by touches_users e.command c no_touch t h in
    let user : (u : NameText) → IsUser (L ++ e ∷ []) u ↔ IsUser L u =
    λ u. untouched _ _ L e (λ h. out (AddUser u) refl h) (λ h. out (DeleteUser u) refl h) in
    let given : (u r : NameText) → IsAssigned (L ++ e ∷ []) u r ↔ IsAssigned L u r =
    λ u r. untouched _ _ L e (λ h. out (AssignUser u r) refl h)
    (λ h. elim h [
      | inl a ↦ out (DeassignUser u r) refl a
      | inr b ↦
          elim b [ inl x ↦ out (DeleteUser u) refl x | inr y ↦ out (DeleteRole r) refl y ]
    ]) in
    record {
      exist = λ u. through (user u) (s.exist u);
      assigned = λ at x there r. through (given x.name r) (s.assigned at x there r);
      only_users = λ u r h. (user u).1 (s.only_users u r ((given u r).0 h));
      named = s.named;
      unique = s.unique;
      places = s.places;
    }

pub untouched_roles : (roles : List (Option NameText)) (juniors : List ℕ) (L : List Entry) (e : Entry)
    → touches_roles e.command ≡ false → RolesStand roles juniors L → RolesStand roles juniors (L ++ e ∷ [])
untouched_roles roles juniors L e no_touch s =
    let out = λ (c : AdminCommand) (t : touches_roles c ≡ true)
    (h : e.command ≡ c). not_by touches_roles e.command c no_touch t h in
    let role : (r : NameText) → IsRole (L ++ e ∷ []) r ↔ IsRole L r =
    λ r. untouched _ _ L e (λ h. out (AddRole r) refl h) (λ h. out (DeleteRole r) refl h) in
    let edge : (a b : NameText) → IsEdge (L ++ e ∷ []) a b ↔ IsEdge L a b =
    λ a b. untouched _ _ L e (λ h. out (AddInheritance a b) refl h)
    (λ h. elim h [
      | inl x ↦ out (DeleteInheritance a b) refl x
      | inr y ↦
          elim y [ inl x ↦ out (DeleteRole a) refl x | inr z ↦ out (DeleteRole b) refl z ]
    ]) in
    record {
      exist = λ r. through (role r) (s.exist r);
      unique = s.unique;
      edges = λ p r there j. through (edge r j) (s.edges p r there j);
      only_roles = λ a b h. (role a).1 (s.only_roles a b ((edge a b).0 h));
      named = s.named;
      empty = s.empty;
      places = s.places;
      rows = s.rows;
    }

pub untouched_grants : (roles : List (Option NameText)) (grants : List (Option Grant)) (L : List Entry) (e : Entry)
    → touches_grants e.command ≡ false → GrantsStand roles grants L → GrantsStand roles grants (L ++ e ∷ [])
untouched_grants roles grants L e no_touch s =
    let out = λ (c : AdminCommand) (t : touches_grants c ≡ true)
    (h : e.command ≡ c). not_by touches_grants e.command c no_touch t h in
    let given : (r : NameText) (op : Operation) (ob : Object)
    → IsGranted (L ++ e ∷ []) r op ob ↔ IsGranted L r op ob =
    λ r op ob. untouched (λ before x. x.command ≡ GrantPermission r op ob)
    (λ x. (x.command ≡ RevokePermission r op ob) ⊎ (x.command ≡ DeleteRole r)) L e
    (λ h. out (GrantPermission r op ob) refl h)
    (λ h. elim h [ inl x ↦ out (RevokePermission r op ob) refl x | inr y ↦ out (DeleteRole r) refl y ]) in
    record {
      granted = λ at x there r. through (given r x.operation x.object) (s.granted at x there r);
      only_pairs = λ r op ob h. s.only_pairs r op ob ((given r op ob).0 h);
      named = s.named;
      used = s.used;
      unique = s.unique;
      places = s.places;
    }

pub untouched_sets : (roles : List (Option NameText)) (sets : List (Option DsdSet)) (L : List Entry) (e : Entry)
    → touches_sets e.command ≡ false → SetsStand roles sets L → SetsStand roles sets (L ++ e ∷ [])
untouched_sets roles sets L e no_touch s =
    let still : (place : ℕ) (name : NameText) (count : ℕ) (members : List NameText)
    → IsSet (L ++ e ∷ []) place name count members ↔ IsSet L place name count members = λ place name count members.
    untouched _ _ L e (λ h. not_by touches_sets e.command (CreateDsdSet name count members) no_touch refl h.1)
    (λ h. not_by touches_sets e.command (DeleteDsdSet name) no_touch refl h) in
    record {
      listed = λ place name count members h. s.listed place name count members ((still place name count members).0 h);
      made = λ at x there. let m = s.made at x there in (m.0, (still x.place x.name x.count m.0).1 m.1, m.2);
      named = s.named;
      unique = s.unique;
      places = s.places;
    }

pub logins_push : (L : List Entry) (e : Entry) → logins (L ++ e ∷ []) ≡ logins L + cond (is_login e) 1 0
logins_push L e = fold_push (λ (a : ℕ) (x : Entry). a + cond (is_login x) 1 0) 0 L e

pub logins_other : (L : List Entry) (e : Entry) → is_login e ≡ false → logins (L ++ e ∷ []) ≡ logins L
logins_other L e h = logins_push L e ∙ ap (λ b. logins L + cond b 1 0) h ∙ add-zero (logins L)

pub not_by_login : (e : Entry) (u : NameText) (roles : List NameText) → is_login e ≡ false
    → e.command ≡ CreateSession u roles → ⊥
not_by_login e u roles quiet same =
    let login : is_login e ≡ true = subst (λ c. is_login (record { session = e.session; command = c }) ≡ true)
    (sym same) refl in
    false≢true (sym quiet ∙ login)

pub untouched_sessions : (roles : List (Option NameText)) (sessions : List (Option Session)) (L : List Entry)
    (e : Entry) → touches_sessions e.command ≡ false → logins (L ++ e ∷ []) ≡ logins L
    → ((p q : ℕ) (role : NameText) → At roles p role → At roles q role → p ≡ q) → length roles ≡ ROLES
    → SessionsStand roles sessions L → Unswept roles sessions L e
untouched_sessions roles sessions L e no_touch count unique many s =
    let out = λ (c : AdminCommand) (t : touches_sessions c ≡ true)
    (h : e.command ≡ c). not_by touches_sessions e.command c no_touch t h in
    let active : (n : ℕ) (r : NameText) → IsActive (L ++ e ∷ []) n r ↔ IsActive L n r = λ n r. untouched _ _ L e
    (λ h. elim h [
      | inl x ↦ out (CreateSession x.user x.roles) refl x.creates.login
      | inr y ↦
          out (AddActiveRole r) refl y.1
    ])
    (λ h. out (DropActiveRole r) refl h.1) in
    let lives : (n : ℕ) (u : NameText) → Remains L e n u ↔ Lives L n u = λ n u. (
      λ h. elim h [ inl m ↦ absurd (out (CreateSession u m.roles) refl m.creates.login) | inr l ↦ l.0 ],
      λ l. inr (l, λ h. elim h [ inl x ↦ out DeleteSession refl x.1 | inr y ↦ out (DeleteUser u) refl y ]),
    ) in
    record {
      exist = λ n u. through (lives n u) (s.exist n u);
      active = λ at x there r. through (active x.number r) (s.active at x there r);
      named = s.named;
      numbers = λ at x there. subst (λ k. x.number ≤ k) (sym count) (s.numbers at x there);
      made = λ n r h. subst (λ k. n ≤ k) (sym count) (s.made n r ((active n r).0 h));
      unique = unique;
      many = many;
      once = s.unique;
      places = s.places;
    }
