-- The facts that decide a policy command, over the list of accepted entries (ANSI INCITS 359-2004, what its functions
-- ask before they act).
use Rattle.std.specs.Prelude.{◌≡◌, ◌≢◌, ℕ, ◌<◌, ◌⊎◌, List, IsFalse, Option, Some, length, slice_get, take}
use Rattle.std.specs.List.{AllPairs}
use Rattle.rbac_policy.specs.declared.objects.Operation.{Operation}
use Rattle.rbac_policy.specs.declared.objects.Operation.TheVariants.{Administer}
use Rattle.rbac_policy.specs.declared.objects.Object.{Object}
use Rattle.rbac_policy.specs.declared.objects.Object.TheVariants.{Policy}
use Rattle.rbac_policy.specs.declared.commands.Entry.{Entry}
use Rattle.rbac_policy.specs.Entries.{is_login}
use Rattle.rbac_policy.specs.Names.{NameText}
use Rattle.rbac_policy.specs.Facts.{IsPairGranted, IsActive, IsAuthorized, Lives, May}
use Rattle.rbac_policy.specs.Fits.{PermissionsFull}

-- the command is given by the session of this number, which lives
pub record IsGivenBy (entries : List Entry) (session : Option ℕ) (number : ℕ) : Type 0 where
  pub given : session ≡ Some number
  pub user : NameText
  pub lives : Lives entries number user

-- a session gives the command, and it lives
abbrev pub HasSession : List Entry → Option ℕ → Type 0
HasSession entries session = (number : ℕ) × IsGivenBy entries session number

-- the session that gives the entry's command lives; a login has none
abbrev pub IsGiven : List Entry → Entry → Type 0
IsGiven entries entry = IsFalse (is_login entry) → HasSession entries entry.session

-- the session that gives the command may change the policy
pub record Administers (entries : List Entry) (session : Option ℕ) : Type 0 where
  pub number : ℕ
  pub given : session ≡ Some number
  pub may : May entries number Administer Policy

-- the user of the session that gives the command is authorized for the role
pub record HasAuthorized (entries : List Entry) (session : Option ℕ) (role : NameText) : Type 0 where
  pub number : ℕ
  pub by : IsGivenBy entries session number
  pub authorized : IsAuthorized entries by.user role

-- the role is active in the session that gives the command
pub record HasActive (entries : List Entry) (session : Option ℕ) (role : NameText) : Type 0 where
  pub number : ℕ
  pub given : session ≡ Some number
  pub active : IsActive entries number role

-- the pair is granted to no role yet, and as many others as there is room for are
pub record HasNoRoomFor (entries : List Entry) (operation : Operation) (object : Object) : Type 0 where
  pub new : IsPairGranted entries operation object → ⊥
  pub full : PermissionsFull entries

-- no separation set has this number and these roles: a role stands twice, or the number is under 2 or over that of the
-- roles
abbrev pub IsNoShape : ℕ → List NameText → Type 0
IsNoShape count roles = (AllPairs (λ one other. one ≢ other) roles → ⊥) ⊎ (count < 2) ⊎ (length roles < count)

-- the first of the names that has the property, which may speak of those before it
pub record FirstListed (P : List NameText → NameText → Type 0) (names : List NameText) (name : NameText) : Type 0 where
  pub at : ℕ
  pub there : slice_get names at ≡ Some name
  pub has : P (take at names) name
  pub first : (place : ℕ) (earlier : NameText) → place < at → slice_get names place ≡ Some earlier
      → P (take place names) earlier → ⊥
