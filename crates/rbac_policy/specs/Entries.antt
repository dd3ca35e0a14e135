-- Facts that a list of accepted entries makes and undoes; the oldest entry stands first (this project's own form).
use Rattle.std.specs.Prelude.{◌≡◌, ℕ, ◌<◌, List, Some, slice_get, take, Bool, true, false, count_by}
use Rattle.rbac_policy.specs.declared.commands.AdminCommand.{AdminCommand}
use Rattle.rbac_policy.specs.declared.commands.AdminCommand.TheVariants.{CreateSession, DeleteSession, AddActiveRole}
use Rattle.rbac_policy.specs.declared.commands.AdminCommand.TheVariants.{DropActiveRole}
use Rattle.rbac_policy.specs.declared.commands.Entry.{Entry}

-- an entry, with those before it, makes the fact, and no later entry undoes it
pub record InForce (Makes : List Entry → Entry → Type 0) (Undoes : Entry → Type 0) (entries : List Entry) : Type 0 where
  pub at : ℕ
  pub entry : Entry
  pub there : slice_get entries at ≡ Some entry
  pub made : Makes (take at entries) entry
  pub kept : (later : ℕ) (e : Entry) → at < later → slice_get entries later ≡ Some e → ¬ (Undoes e)

-- the command makes a session (CreateSession of ANSI INCITS 359-2004)
abbrev pub makes_session : AdminCommand → Bool
makes_session (CreateSession user roles) = true
makes_session _ = false

-- the commands that need the right to administer the policy
abbrev pub is_administrative : AdminCommand → Bool
is_administrative (CreateSession user roles) = false
is_administrative DeleteSession = false
is_administrative (AddActiveRole role) = false
is_administrative (DropActiveRole role) = false
is_administrative _ = true

-- the entry is that of a login
abbrev pub is_login : Entry → Bool
is_login e = makes_session e.command

-- how many sessions were ever made
abbrev pub logins : List Entry → ℕ
logins entries = count_by is_login entries
