-- The policy step gives one answer at most.
use Rattle.std.proofs.Common.{◌≡◌, ℕ, ◌<◌, List, [], ◌∷◌, ◌++◌, inl, inr, arith, sym, ◌∙◌, ap, subst}
use Rattle.std.specs.Prelude.{Option, Some, None, Result, slice_get}
use Rattle.std.proofs.lemmas.Bool.{cases_order}
use Rattle.std.proofs.lemmas.Option.{same_Some, slice_get_within}
use Rattle.std.proofs.lemmas.List.{length-take-le}
use Rattle.refusal_rules.specs.Rules.{Rules, accept, ◌▸◌, ◌▸▸◌, RefuseNaming, IsDefinite, AllDefinite}
use Rattle.refusal_rules.proofs.RuleLemmas.{says, unless, naming, one_answer as same_answer}
use Rattle.rbac_policy.specs.Names.{NameText}
use Rattle.rbac_policy.specs.Facts.{IsSet, Violates}
use Rattle.rbac_policy.specs.declared.commands.AdminCommand.{AdminCommand}
use Rattle.rbac_policy.specs.declared.commands.AdminCommand.TheVariants.{AddUser, AddRole, DeleteRole, AssignUser}
use Rattle.rbac_policy.specs.declared.commands.AdminCommand.TheVariants.{DeassignUser, GrantPermission}
use Rattle.rbac_policy.specs.declared.commands.AdminCommand.TheVariants.{RevokePermission, AddInheritance}
use Rattle.rbac_policy.specs.declared.commands.AdminCommand.TheVariants.{DeleteInheritance, CreateDsdSet, CreateSession}
use Rattle.rbac_policy.specs.declared.commands.AdminCommand.TheVariants.{DeleteSession, AddActiveRole, DropActiveRole}
use Rattle.rbac_policy.specs.declared.commands.Entry.{Entry}
use Rattle.rbac_admin.specs.declared.refusal.PolicyRefusal.{PolicyRefusal}
use Rattle.rbac_policy.specs.Separation.{IsFirstViolated, IsFirstSetOf}
use Rattle.rbac_admin.specs.Conditions.{FirstListed}
use Rattle.rbac_admin.specs.PolicyStep.{PolicyStep, session_rules, permission_rules, existence_rules, condition_rules}
use Rattle.rbac_admin.specs.PolicyStep.{separation_rules, table_rules, policy_rules, entry_of, violation}

-- one place at most, where none of those before a place with the property has it
one_place : (a b : ℕ) → (a < b → ⊥) → (b < a → ⊥) → a ≡ b
one_place a b not_below not_above = elim (cases_order a b) [
  | inl same ↦ same
  | inr other ↦ elim other [ inl low ↦ absurd (not_below low) | inr high ↦ absurd (not_above high) ]
]

one_listed : (P : List NameText → NameText → Type 0) (names : List NameText) (a b : NameText) → FirstListed P names a
    → FirstListed P names b → a ≡ b
one_listed P names a b x y =
    let at = one_place x.at y.at (λ low. y.first x.at a low x.there x.has) (λ low. x.first y.at b low y.there y.has) in
    same_Some a b (sym x.there ∙ ap (slice_get names) at ∙ y.there)

listed : {refusal : NameText → PolicyRefusal} {P : List NameText → NameText → Type 0} {names : List NameText}
    → IsDefinite (RefuseNaming refusal (FirstListed P names))
listed {P = P} {names = names} = naming (one_listed P names)

module _ (entries : List Entry) where
  -- a separation set's place is that of its entry
  set_there : (place : ℕ) (set : NameText) (count : ℕ) (roles : List NameText) (s : IsSet entries place set count roles)
      → slice_get entries place ≡ Some s.entry
  set_there place set count roles s =
      let within = slice_get_within entries s.at s.entry s.there in
      let at : s.at ≡ place = sym (length-take-le s.at entries (omega arith)) ∙ s.made.0 in
      subst (λ k. slice_get entries k ≡ Some s.entry) at s.there

  record SameSet (set : NameText) (count : ℕ) (roles : List NameText) (other : NameText) (number : ℕ)
      (members : List NameText) : Type 0 where
    by_name : set ≡ other
    by_count : count ≡ number
    by_roles : roles ≡ members

  one_set : (place : ℕ) (set : NameText) (count : ℕ) (roles : List NameText) (other : NameText) (number : ℕ)
      (members : List NameText)
      → IsSet entries place set count roles → IsSet entries place other number members
      → SameSet set count roles other number members
  one_set place set count roles other number members s t =
      let entry : s.entry ≡ t.entry = same_Some s.entry t.entry
      (sym (set_there place set count roles s) ∙ set_there place other number members t) in
      let same : CreateDsdSet set count roles ≡ CreateDsdSet other number members =
      sym s.made.1 ∙ ap (λ e. e.command) entry ∙ t.made.1 in
      record { by_name = cc; by_count = cc; by_roles = cc }

  one_violated : (set other : NameText) (session number : ℕ) → IsFirstViolated entries set session
      → IsFirstViolated entries other number → (set ≡ other) × (session ≡ number)
  one_violated set other session number x y =
      let place = one_place x.place y.place
      (λ low. y.first x.place set x.count x.roles low x.is_set session x.violates)
      (λ low. x.first y.place other y.count y.roles low y.is_set number y.violates) in
      let Here : ℕ → Type 0 = λ p. IsSet entries p set x.count x.roles in
      let same = one_set y.place set x.count x.roles other y.count y.roles (subst Here place x.is_set) y.is_set in
      let there = λ (s : ℕ) (v : Violates entries s y.count y.roles).
      subst (Violates entries s x.count) (sym same.by_roles)
      (subst (λ n. Violates entries s n y.roles) (sym same.by_count) v) in
      let back = λ (s : ℕ) (v : Violates entries s x.count x.roles).
      subst (Violates entries s y.count) same.by_roles (subst (λ n. Violates entries s n x.roles) same.by_count v) in (
        same.by_name,
        one_place session number (λ low. y.least session low (back session x.violates))
            (λ low. x.least number low (there number y.violates)),
      )

  one_set_of : (role set other : NameText) → IsFirstSetOf entries role set → IsFirstSetOf entries role other
      → set ≡ other
  one_set_of role set other x y =
      let place = one_place x.place y.place
      (λ low. y.first x.place set x.count x.roles low x.is_set x.member)
      (λ low. x.first y.place other y.count y.roles low y.is_set y.member) in
      let Here : ℕ → Type 0 = λ p. IsSet entries p set x.count x.roles in
      (one_set y.place set x.count x.roles other y.count y.roles (subst Here place x.is_set) y.is_set).by_name

violations : (entries : List Entry) (session : Option ℕ) (command : AdminCommand)
    → IsDefinite (violation entries session command)
violations entries session command = naming same where
  after : List Entry
  after = entries ++ record { session = session; command = command } ∷ []

  same : (one other : NameText × ℕ) → IsFirstViolated after one.0 one.1 → IsFirstViolated after other.0 other.1
      → one ≡ other
  same one other x y =
      let both = one_violated after one.0 other.0 one.1 other.1 x y in
      ap (λ set. (set, one.1)) both.0 ∙ ap (λ session. (other.0, session)) both.1

members : {refusal : NameText → PolicyRefusal} (entries : List Entry) (role : NameText)
    → IsDefinite (RefuseNaming refusal (IsFirstSetOf entries role))
members entries role = naming (one_set_of entries role)

-- the rules of each kind are definite
session_definite : (entries : List Entry) (session : Option ℕ) (command : AdminCommand)
    → AllDefinite (session_rules entries session command)
session_definite entries session (CreateSession user roles) = record {}
session_definite entries session command = (unless, record {})

right_definite : (entries : List Entry) (session : Option ℕ) (command : AdminCommand)
    → AllDefinite (permission_rules entries session command)
right_definite entries session (CreateSession user roles) = record {}
right_definite entries session DeleteSession = record {}
right_definite entries session (AddActiveRole role) = record {}
right_definite entries session (DropActiveRole role) = record {}
right_definite entries session command = (unless, record {})

names_definite : (entries : List Entry) (command : AdminCommand) → AllDefinite (existence_rules entries command)
names_definite entries (AddUser user) = (says, record {})
names_definite entries (AddRole role) = (says, record {})
names_definite entries (AssignUser user role) = (unless, (unless, record {}))
names_definite entries (DeassignUser user role) = (unless, (unless, record {}))
names_definite entries (AddInheritance senior junior) = (unless, (unless, record {}))
names_definite entries (DeleteInheritance senior junior) = (unless, (unless, record {}))
names_definite entries (CreateDsdSet set count roles) = (says, (listed, record {}))
names_definite entries (CreateSession user roles) = (says, (unless, (listed, record {})))
names_definite entries DeleteSession = record {}
names_definite entries command = (unless, record {})

conditions_definite : (entries : List Entry) (session : Option ℕ) (command : AdminCommand)
    → AllDefinite (condition_rules entries session command)
conditions_definite entries session (DeleteRole role) = (members entries role, record {})
conditions_definite entries session (AssignUser user role) = (says, record {})
conditions_definite entries session (DeassignUser user role) = (unless, record {})
conditions_definite entries session (GrantPermission role operation object) = (says, record {})
conditions_definite entries session (RevokePermission role operation object) = (unless, record {})
conditions_definite entries session (AddInheritance senior junior) = (says, (says, record {}))
conditions_definite entries session (DeleteInheritance senior junior) = (unless, record {})
conditions_definite entries session (CreateDsdSet set count roles) = (says, record {})
conditions_definite entries session (CreateSession user roles) = (listed, (listed, record {}))
conditions_definite entries session (AddActiveRole role) = (unless, (says, record {}))
conditions_definite entries session (DropActiveRole role) = (unless, record {})
conditions_definite entries session command = record {}

separation_definite : (entries : List Entry) (session : Option ℕ) (command : AdminCommand)
    → AllDefinite (separation_rules entries session command)
separation_definite entries session (AddInheritance senior junior) =
    (violations entries session (AddInheritance senior junior), record {})
separation_definite entries session (CreateDsdSet set count roles) =
    (violations entries session (CreateDsdSet set count roles), record {})
separation_definite entries session (CreateSession user roles) =
    (violations entries None (CreateSession user roles), record {})
separation_definite entries session (AddActiveRole role) = (violations entries session (AddActiveRole role), record {})
separation_definite entries session command = record {}

tables_definite : (entries : List Entry) (command : AdminCommand) → AllDefinite (table_rules entries command)
tables_definite entries (AddUser user) = (says, record {})
tables_definite entries (AddRole role) = (says, record {})
tables_definite entries (GrantPermission role operation object) = (says, record {})
tables_definite entries (CreateDsdSet set count roles) = (says, record {})
tables_definite entries (CreateSession user roles) = (says, record {})
tables_definite entries command = record {}

both_definite : (one other : Rules PolicyRefusal) → AllDefinite one → AllDefinite other → AllDefinite (one ▸▸ other)
both_definite accept other first second = second
both_definite (rule ▸ later) other first second = (first.0, both_definite later other first.1 second)

-- the rules of each command are definite
pub all_definite : (entries : List Entry) (session : Option ℕ) (command : AdminCommand)
    → AllDefinite (policy_rules entries session command)
all_definite entries session command =
    let by = (entry_of session command).session in
    both_definite (session_rules entries session command) _ (session_definite entries session command)
    (both_definite (permission_rules entries by command) _ (right_definite entries by command)
    (both_definite (existence_rules entries command) _ (names_definite entries command)
    (both_definite (condition_rules entries by command) _ (conditions_definite entries by command)
    (both_definite (separation_rules entries by command) _ (separation_definite entries by command)
    (tables_definite entries command)))))

-- two answers to one command are one
pub one_answer : (entries : List Entry) (session : Option ℕ) (command : AdminCommand) (a b : Result Entry PolicyRefusal)
    → PolicyStep entries session command a → PolicyStep entries session command b → a ≡ b
one_answer entries session command =
    same_answer (policy_rules entries session command) (all_definite entries session command) (entry_of session command)
