-- When the tables of a policy say what a list of accepted entries says (this project's own form).
use Rattle.std.specs.Prelude.{◌≡◌, ℕ, ◌≤◌, ◌↔◌, List, Option, Some, None, Contains, slice_get, length, slice_index}
use Rattle.rbac_policy.specs.declared.objects.Operation.{Operation}
use Rattle.rbac_policy.specs.declared.objects.Object.{Object}
use Rattle.rbac_policy.specs.declared.commands.Entry.{Entry}
use Rattle.rbac_policy.specs.declared.rows.User.{User}
use Rattle.rbac_policy.specs.declared.rows.Grant.{Grant}
use Rattle.rbac_policy.specs.declared.rows.Session.{Session}
use Rattle.rbac_policy.specs.declared.rows.DsdSet.{DsdSet}
use Rattle.rbac_policy.specs.declared.policy.Policy.{Policy}
use Rattle.rbac_policy.specs.declared.sizes.TheConstants.{USERS, ROLES, GRANTS, SESSIONS, SETS}
use Rattle.rbac_policy.specs.Names.{NameText}
use Rattle.rbac_closure.specs.Sets.{Has}
use Rattle.rbac_policy.specs.Entries.{logins}
use Rattle.rbac_policy.specs.Facts.{IsUser, IsRole, IsSet, IsAssigned, IsGranted, IsEdge, IsActive, Lives}
use Rattle.rbac_policy.specs.Tables.{At}

-- some row holds a value with P
pub record Holds {X : Type 0} (P : X → Type 0) (rows : List (Option X)) : Type 0 where
  pub at : ℕ
  pub value : X
  pub there : At rows at value
  pub fact : P value

-- no two rows hold values with one key
abbrev pub IsKeyed : {X A : Type 0} → (X → A) → List (Option X) → Type 0
IsKeyed {X = X} key rows = (p q : ℕ) (x y : X) → At rows p x → At rows q y → key x ≡ key y → p ≡ q

-- the mask has the place of the role
pub record InMask (roles : List (Option NameText)) (mask : ℕ) (role : NameText) : Type 0 where
  pub place : ℕ
  pub there : At roles place role
  pub bit : Has mask place

-- each place of the mask has a role
abbrev pub IsNamed : List (Option NameText) → ℕ → Type 0
IsNamed roles mask = (place : ℕ) → Has mask place → (role : NameText) × At roles place role

-- the users and their assigned roles
pub record UsersStand (roles : List (Option NameText)) (users : List (Option User))
    (entries : List Entry) : Type 0 where
  pub exist : (user : NameText) → IsUser entries user ↔ Holds (λ x. x.name ≡ user) users
  pub assigned : (at : ℕ) (x : User) → At users at x → (role : NameText)
      → IsAssigned entries x.name role ↔ InMask roles x.roles role
  pub only_users : (user role : NameText) → IsAssigned entries user role → IsUser entries user
  pub named : (at : ℕ) (x : User) → At users at x → IsNamed roles x.roles
  pub unique : IsKeyed (λ (x : User). x.name) users
  pub places : length users ≡ USERS

-- the roles and the edges between them
pub record RolesStand (roles : List (Option NameText)) (juniors : List ℕ) (entries : List Entry) : Type 0 where
  pub exist : (role : NameText) → IsRole entries role ↔ Holds (λ x. x ≡ role) roles
  pub unique : (p q : ℕ) (role : NameText) → At roles p role → At roles q role → p ≡ q
  pub edges : (place : ℕ) (role : NameText) → At roles place role → (junior : NameText)
      → IsEdge entries role junior ↔ InMask roles (slice_index juniors place) junior
  pub only_roles : (senior junior : NameText) → IsEdge entries senior junior → IsRole entries senior
  pub named : (place : ℕ) → IsNamed roles (slice_index juniors place)
  pub empty : (place : ℕ) → slice_get roles place ≡ Some None → (junior : ℕ) → Has (slice_index juniors place) junior
      → ⊥
  pub places : length roles ≡ ROLES
  pub rows : length juniors ≡ ROLES

-- the pairs of an operation and an object that are granted to some role, with these roles
pub record GrantsStand (roles : List (Option NameText)) (grants : List (Option Grant))
    (entries : List Entry) : Type 0 where
  pub granted : (at : ℕ) (x : Grant) → At grants at x → (role : NameText)
      → IsGranted entries role x.operation x.object ↔ InMask roles x.roles role
  pub only_pairs : (role : NameText) (op : Operation) (object : Object) → IsGranted entries role op object
      → Holds (λ x. (x.operation ≡ op) × (x.object ≡ object)) grants
  pub named : (at : ℕ) (x : Grant) → At grants at x → IsNamed roles x.roles
  pub used : (at : ℕ) (x : Grant) → At grants at x → (place : ℕ) × Has x.roles place
  pub unique : (p q : ℕ) (x y : Grant) → At grants p x → At grants q y → x.operation ≡ y.operation → x.object ≡ y.object
      → p ≡ q
  pub places : length grants ≡ GRANTS

-- the living sessions and their active roles
pub record SessionsStand (roles : List (Option NameText)) (sessions : List (Option Session))
    (entries : List Entry) : Type 0 where
  pub exist : (number : ℕ) (user : NameText) → Lives entries number user
      ↔ Holds (λ x. (x.number ≡ number) × (x.user ≡ user)) sessions
  pub active : (at : ℕ) (x : Session) → At sessions at x → (role : NameText)
      → IsActive entries x.number role ↔ InMask roles x.active role
  pub named : (at : ℕ) (x : Session) → At sessions at x → IsNamed roles x.active
  pub numbers : (at : ℕ) (x : Session) → At sessions at x → x.number ≤ logins entries
  pub made : (number : ℕ) (role : NameText) → IsActive entries number role → number ≤ logins entries
  pub unique : IsKeyed (λ (x : Session). x.number) sessions
  pub places : length sessions ≡ SESSIONS

-- the row is that of the separation set of this name, number and members, which the entry at this place made
pub record IsRowOf (roles : List (Option NameText)) (place : ℕ) (set : NameText) (count : ℕ) (listed : List NameText)
    (row : DsdSet) : Type 0 where
  pub name : row.name ≡ set
  pub number : row.count ≡ count
  pub made : row.place ≡ place
  pub members : (role : NameText) → Contains listed role ↔ InMask roles row.roles role

-- the separation sets, with their numbers and members and the places of the entries that made them
pub record SetsStand (roles : List (Option NameText)) (sets : List (Option DsdSet))
    (entries : List Entry) : Type 0 where
  pub listed : (place : ℕ) (set : NameText) (count : ℕ) (members : List NameText)
      → IsSet entries place set count members → Holds (IsRowOf roles place set count members) sets
  pub made : (at : ℕ) (x : DsdSet) → At sets at x → (members : List NameText)
      × IsSet entries x.place x.name x.count members × IsRowOf roles x.place x.name x.count members x
  pub named : (at : ℕ) (x : DsdSet) → At sets at x → IsNamed roles x.roles
  pub unique : IsKeyed (λ (x : DsdSet). x.name) sets
  pub places : length sets ≡ SETS

-- the policy stands for the entries
pub record StandsFor (policy : Policy) (entries : List Entry) : Type 0 where
  pub version : policy.version ≡ length entries
  pub logins : policy.logins ≡ logins entries
  pub users : UsersStand policy.roles policy.users entries
  pub roles : RolesStand policy.roles policy.juniors entries
  pub grants : GrantsStand policy.roles policy.grants entries
  pub sessions : SessionsStand policy.roles policy.sessions entries
  pub sets : SetsStand policy.roles policy.sets entries
