-- Dynamic separation of duty over the list of accepted entries (ANSI INCITS 359-2004; the order of sets and sessions is
-- this project's own form).
use Rattle.std.specs.Prelude.{ℕ, ◌<◌, List, Option, None, MatchOption, Contains}
use Rattle.rbac_policy.specs.declared.commands.AdminCommand.{AdminCommand}
use Rattle.rbac_policy.specs.declared.commands.AdminCommand.TheVariants.{CreateSession}
use Rattle.rbac_policy.specs.declared.commands.Entry.{Entry}
use Rattle.rbac_policy.specs.declared.separation.Violation.{Violation}
use Rattle.rbac_policy.specs.Names.{NameText}
use Rattle.rbac_policy.specs.Facts.{IsSet, Violates}

-- the entry of the command, which this session gives
abbrev pub entry_of : Option ℕ → AdminCommand → Entry
entry_of by command = record { session = by; command = command }

-- the entry of a login of the user with these roles, which no session gives
abbrev pub login_entry : NameText → List NameText → Entry
login_entry user roles = record { session = None; command = CreateSession user roles }

-- the set is the first, in order of creation, that some session violates, and the session is the least that violates it
pub record IsFirstViolated (entries : List Entry) (set : NameText) (session : ℕ) : Type 0 where
  pub place : ℕ
  pub count : ℕ
  pub roles : List NameText
  pub is_set : IsSet entries place set count roles
  pub violates : Violates entries session count roles
  pub first : (earlier : ℕ) (other : NameText) (number : ℕ) (members : List NameText) → earlier < place
      → IsSet entries earlier other number members → (any : ℕ) → Violates entries any number members → ⊥
  pub least : (lesser : ℕ) → lesser < session → Violates entries lesser count roles → ⊥

-- the answer is the first set that some session violates, with the least session that does; or there is none
abbrev pub AnswersFirstViolated : List Entry → Option Violation → Type 0
AnswersFirstViolated entries answer = MatchOption answer
    ((set : NameText) (session : ℕ) → IsFirstViolated entries set session → ⊥)
    (λ violation. IsFirstViolated entries violation.set violation.session)

-- the set is the first, in order of creation, of which the role is a member
pub record IsFirstSetOf (entries : List Entry) (role : NameText) (set : NameText) : Type 0 where
  pub place : ℕ
  pub count : ℕ
  pub roles : List NameText
  pub is_set : IsSet entries place set count roles
  pub member : Contains roles role
  pub first : (earlier : ℕ) (other : NameText) (number : ℕ) (members : List NameText) → earlier < place
      → IsSet entries earlier other number members → Contains members role → ⊥
