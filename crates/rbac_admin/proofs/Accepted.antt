-- What an accepted command leaves in the list of entries.
use Rattle.std.proofs.Common.{◌≡◌, ◌↔◌, ⊎_elim, ℕ, List, sym, refl, subst}
use Rattle.std.specs.Prelude.{true, Option, Result, Ok, Err}
use Rattle.refusal_rules.specs.Rules.{Rules, Answers, AllPass, FirstRefuses}
use Rattle.refusal_rules.proofs.RuleLemmas.{all_passed, first_or_none, refused, accepted}
use Rattle.std.proofs.lemmas.Bool.{false≢true}
use Rattle.rbac_policy.specs.declared.commands.AdminCommand.{AdminCommand}
use Rattle.rbac_policy.specs.declared.commands.AdminCommand.TheVariants.{CreateSession, DeleteSession, AddActiveRole}
use Rattle.rbac_policy.specs.declared.commands.AdminCommand.TheVariants.{DropActiveRole}
use Rattle.rbac_policy.specs.declared.commands.Entry.{Entry}
use Rattle.rbac_admin.specs.declared.refusal.PolicyRefusal.{PolicyRefusal}
use Rattle.rbac_admin.specs.Conditions.{Administers}
use Rattle.rbac_policy.specs.Entries.{is_administrative}
use Rattle.rbac_admin.specs.PolicyStep.{PolicyStep, policy_rules, entry_of}

-- where an entry is answered, each rule lets pass, and the entry is the command's
answered_entry : (entries : List Entry) (session : Option ℕ) (command : AdminCommand) (e : Entry)
    → PolicyStep entries session command (Ok e)
    → AllPass (policy_rules entries session command) × (e ≡ entry_of session command)
answered_entry entries session command e h = let all = all_passed rules Refused Accepted (λ refusal is. cc) h in
    (all.0, let is = all.1 in cc) where
      answer : Result Entry PolicyRefusal
      answer = Ok e

      rules : Rules PolicyRefusal
      rules = policy_rules entries session command

      Refused : PolicyRefusal → Type 0
      Refused refusal = answer ≡ Err refusal

      Accepted : Type 0
      Accepted = answer ≡ Ok (entry_of session command)

-- where an entry is answered, each rule lets pass
pub passed : (entries : List Entry) (session : Option ℕ) (command : AdminCommand) (e : Entry)
    → PolicyStep entries session command (Ok e)
    → AllPass (policy_rules entries session command)
passed entries session command e h = (answered_entry entries session command e h).0

-- the entry is the command, with the session that gave it unless it is a login
pub accepted_entry : (entries : List Entry) (session : Option ℕ) (command : AdminCommand) (e : Entry)
    → PolicyStep entries session command (Ok e) → e ≡ entry_of session command
accepted_entry entries session command e h = (answered_entry entries session command e h).1

-- what is asked of the entry alone is asked as it was of the command
same_step : (entries : List Entry) (session : Option ℕ) (command : AdminCommand) (answer : Result Entry PolicyRefusal)
    → PolicyStep entries session command answer → PolicyStep entries (entry_of session command).session
    (entry_of session command).command answer
same_step entries session (CreateSession user roles) answer h = h
same_step entries session command answer h = h

-- an accepted entry is accepted again from the entry alone
pub accepted_again : (entries : List Entry) (session : Option ℕ) (command : AdminCommand) (e : Entry)
    → PolicyStep entries session command (Ok e) → PolicyStep entries e.session e.command (Ok e)
accepted_again entries session command e h =
    let Again : Entry → Type 0 = λ x. PolicyStep entries x.session x.command (Ok e) in
    subst Again (sym (accepted_entry entries session command e h)) (same_step entries session command (Ok e) h)

-- an administrative command is accepted only from a session that may administer
pub accepted_administers : (entries : List Entry) (session : Option ℕ) (command : AdminCommand) (e : Entry)
    → is_administrative command ≡ true → PolicyStep entries session command (Ok e) → Administers entries session
accepted_administers entries session (CreateSession user roles) e administrative h = absurd (false≢true administrative)
accepted_administers entries session DeleteSession e administrative h = absurd (false≢true administrative)
accepted_administers entries session (AddActiveRole role) e administrative h = absurd (false≢true administrative)
accepted_administers entries session (DropActiveRole role) e administrative h = absurd (false≢true administrative)
accepted_administers entries session command e administrative h = (passed entries session command e h).1.0

-- the answer is a refusal exactly when it is that of the first rule that refuses
pub refused_first : (entries : List Entry) (session : Option ℕ) (command : AdminCommand) (refusal : PolicyRefusal)
    → (PolicyStep entries session command (Err refusal) ↔ FirstRefuses (policy_rules entries session command) refusal)
refused_first entries session command refusal = (to, λ first. refused all Refused Accepted refusal first refl) where
  all : Rules PolicyRefusal
  all = policy_rules entries session command

  answer : Result Entry PolicyRefusal
  answer = Err refusal

  Refused : PolicyRefusal → Type 0
  Refused given = answer ≡ Err given

  Accepted : Type 0
  Accepted = answer ≡ Ok (entry_of session command)

  to : Answers all Refused Accepted → FirstRefuses all refusal
  to h = ⊎_elim
      (λ first. let is : first.0 ≡ refusal = (let same = first.2 in cc) in
      subst (λ given. FirstRefuses all given) is first.1)
      (λ none. let is = none.1 in absurd cc)
      (first_or_none all Refused Accepted h)

-- and it is the command's entry exactly when all rules let pass
pub accepted_all : (entries : List Entry) (session : Option ℕ) (command : AdminCommand)
    → (PolicyStep entries session command (Ok (entry_of session command))
    ↔ AllPass (policy_rules entries session command))
accepted_all entries session command = (
  passed entries session command (entry_of session command),
  λ all. accepted (policy_rules entries session command) (λ refusal. Ok (entry_of session command) ≡ Err refusal)
      (Ok (entry_of session command) ≡ Ok (entry_of session command)) all refl,
)
