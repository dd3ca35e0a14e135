-- Steps through the rules of a policy command.
use Rattle.std.proofs.Common.{refl, inl, inr, ◌≡◌, ◌∙◌, ◌⊎◌, ◌↔◌, sym, subst, ℕ, List, IsTrue, true, false, Bool, rules}
use Rattle.std.specs.Prelude.{IsFalse, Option, Some, Result, Ok, Err}
use Rattle.std.proofs.lemmas.Option.{same_Some}
use Rattle.refusal_rules.specs.Rules.{Rule, Rules, accept, ◌▸◌, ◌▸▸◌, RefuseIf, RefuseUnless, Refuses, Passes, Answers}
use Rattle.refusal_rules.specs.Rules.{AllPass, Tests}
use Rattle.refusal_rules.proofs.RuleLemmas.{refuse, pass, append, accepted, all_passed}
use Rattle.rbac_policy.specs.declared.commands.AdminCommand.{AdminCommand}
use Rattle.rbac_policy.specs.declared.commands.Entry.{Entry}
use Rattle.rbac_policy.specs.Entries.{is_login}
use Rattle.rbac_policy.specs.Names.{NameText}
use Rattle.rbac_policy.specs.Facts.{IsActive, IsAuthorized, Lives}
use Rattle.rbac_admin.specs.declared.refusal.PolicyRefusal.{PolicyRefusal}
use Rattle.rbac_admin.specs.declared.refusal.PolicyRefusal.TheVariants.{NotAuthorized, AlreadyActive}
use Rattle.rbac_admin.specs.Conditions.{IsGivenBy, IsGiven, HasAuthorized, HasActive}
use Rattle.rbac_admin.specs.PolicyStep.{session_rules, given_rules, policy_rules, entry_of, Checks}

-- a test that is not passed
pub not_so : {b : Bool} {P : Type 0} → (IsTrue b ↔ P) → b ≡ false → P → ⊥
not_so {b = true} test e p = cc
not_so {b = false} test e p = search (rules, test.1 p)

pub is_so : {b : Bool} {P : Type 0} → (IsTrue b ↔ P) → b ≡ true → P
is_so {b = true} test e = test.0 (search rules)
is_so {b = false} test e = cc

-- where a test by rules passes, each of them lets pass
pub checked : (all : Rules PolicyRefusal) → Checks all (Ok (record {})) → AllPass all
checked all h = (all_passed all _ _ (λ refusal is. absurd cc) h).0

-- rules that let pass leave the answer to those after them
pub skip : (first later : Rules PolicyRefusal) (Refused : PolicyRefusal → Type 0) (Accepted : Type 0) → AllPass first
    → Answers later Refused Accepted
    → Answers (first ▸▸ later) Refused Accepted
skip first later Refused Accepted all next = append first later Refused Accepted
    (accepted first Refused (Answers later Refused Accepted) all next)

-- what is said of one answer by the rules is said of another
pub mapped : (all : Rules PolicyRefusal) (Refused Other : PolicyRefusal → Type 0) (Next Accepted : Type 0)
    → ((refusal : PolicyRefusal) → Refused refusal → Other refusal)
    → (Next → Accepted) → Answers all Refused Next → Answers all Other Accepted
mapped accept Refused Other Next Accepted refused next h = next h
mapped (rule ▸ later) Refused Other Next Accepted refused next (inl r) =
    refuse r.refusal r.given (refused r.refusal r.answered)
mapped (rule ▸ later) Refused Other Next Accepted refused next (inr p) =
    pass p.passed (mapped later Refused Other Next Accepted refused next p.next)

-- a refusal by the first rules is one by all
pub stop : (first later : Rules PolicyRefusal) (Refused Other : PolicyRefusal → Type 0) (Next Accepted : Type 0)
    → ((refusal : PolicyRefusal) → Refused refusal → Other refusal)
    → (Next → ⊥) → Answers first Refused Next → Answers (first ▸▸ later) Other Accepted
stop first later Refused Other Next Accepted refused none h =
    append first later Other Accepted
    (mapped first Refused Other Next (Answers later Other Accepted) refused (λ n. absurd (none n)) h)

-- a test of one rule
pub tested : (rule : Rule PolicyRefusal) (answer : Result (Unit {0}) PolicyRefusal) → Tests rule answer
    → Checks (rule ▸ accept) answer
tested rule (Ok done) h = pass h refl
tested rule (Err refusal) h = refuse refusal h refl

-- the session that the command's entry names has been asked for, and it lives where there is one
pub record IsGiver (entries : List Entry) (session named : Option ℕ) (command : AdminCommand) : Type 0 where
  pub passed : AllPass (session_rules entries session command)
  pub same : named ≡ (entry_of session command).session
  pub given : IsGiven entries (record { session = named; command = command })

pub giver_of : (entries : List Entry) (session named : Option ℕ) (command : AdminCommand)
    → Answers (session_rules entries session command)
    (λ refusal. (let r : Result (Option ℕ) PolicyRefusal = Ok named in r) ≡ Err refusal)
    (((let r : Result (Option ℕ) PolicyRefusal = Ok named in r) ≡ Ok (entry_of session command).session)
    × IsGiven entries (entry_of session command))
    → IsGiver entries session named command
giver_of entries session named command h =
    let all = all_passed (session_rules entries session command) _ _ (λ refusal is. absurd cc) h in
    let same : named ≡ (entry_of session command).session = (let is = all.1.0 in cc) in
    record {
      passed = all.0;
      same = same;
      given = subst (λ by. IsGiven entries (record { session = by; command = command })) (sym same) all.1.1;
    }

-- the command is answered by what is asked of its entry
pub after_giver : (entries : List Entry) (session named : Option ℕ) (command : AdminCommand)
    (Refused : PolicyRefusal → Type 0) (Accepted : Type 0)
    → IsGiver entries session named command → Answers (given_rules entries named command) Refused Accepted
    → Answers (policy_rules entries session command) Refused Accepted
after_giver entries session named command Refused Accepted giver h =
    skip (session_rules entries session command) (given_rules entries (entry_of session command).session command)
    Refused Accepted giver.passed
    (subst (λ by. Answers (given_rules entries by command) Refused Accepted) giver.same h)

-- the session of an entry that is no login's lives
pub given_by : (entries : List Entry) (entry : Entry) (n : ℕ) → IsFalse (is_login entry) → entry.session ≡ Some n
    → IsGiven entries entry
    → IsGivenBy entries entry.session n
given_by entries entry n plain session given =
    let has = given plain in
    record {
      given = session;
      user = has.1.user;
      lives = subst (λ k. Lives entries k has.1.user) (same_Some has.0 n (sym has.1.given ∙ session)) has.1.lives;
    }

module _ (entries : List Entry) (session : Option ℕ) (n : ℕ) (by : IsGivenBy entries session n) where
  pub pass_inactive : (role : NameText) {Refused : PolicyRefusal → Type 0} {Next : Type 0}
      → (IsActive entries n role → ⊥)
      → Next
      → Refuses (RefuseIf (AlreadyActive role) (HasActive entries session role)) Refused
      ⊎ Passes (RefuseIf (AlreadyActive role) (HasActive entries session role)) Next
  pass_inactive role inactive then =
      pass (λ a. inactive
      (subst (λ k. IsActive entries k role) (same_Some a.number n (sym a.given ∙ by.given)) a.active)) then

  pub refuse_inactive : (role : NameText) {Refused : PolicyRefusal → Type 0} {Next : Type 0} (refusal : PolicyRefusal)
      → (refusal ≡ AlreadyActive role) × IsActive entries n role → Refused refusal
      → Refuses (RefuseIf (AlreadyActive role) (HasActive entries session role)) Refused
      ⊎ Passes (RefuseIf (AlreadyActive role) (HasActive entries session role)) Next
  refuse_inactive role refusal given answered = refuse refusal
      (given.0, record { number = n; given = by.given; active = given.1 }) answered

  pub tested_inactive : (role : NameText) (answer : Result (Unit {0}) PolicyRefusal)
      → Tests (RefuseIf (AlreadyActive role) (IsActive entries n role)) answer
      → Checks (RefuseIf (AlreadyActive role) (HasActive entries session role) ▸ accept) answer
  tested_inactive role (Ok done) h = pass_inactive role h refl
  tested_inactive role (Err refusal) h = refuse_inactive role refusal h refl

  pub pass_authorized : (role : NameText) {Refused : PolicyRefusal → Type 0} {Next : Type 0}
      → IsAuthorized entries by.user role → Next
      → Refuses (RefuseUnless (HasAuthorized entries session role) (NotAuthorized role)) Refused
      ⊎ Passes (RefuseUnless (HasAuthorized entries session role) (NotAuthorized role)) Next
  pass_authorized role authorized then = pass (record { number = n; by = by; authorized = authorized }) then

  -- whoever the user of the session is
  pub refuse_authorized : (role : NameText) {Refused : PolicyRefusal → Type 0} {Next : Type 0} (refusal : PolicyRefusal)
      → ((user : NameText) → Lives entries n user → (refusal ≡ NotAuthorized role)
      × (IsAuthorized entries user role → ⊥)) → Refused refusal
      → Refuses (RefuseUnless (HasAuthorized entries session role) (NotAuthorized role)) Refused
      ⊎ Passes (RefuseUnless (HasAuthorized entries session role) (NotAuthorized role)) Next
  refuse_authorized role refusal given answered =
      refuse refusal (
        (given by.user by.lives).0,
        λ a.
            let same : a.number ≡ n = same_Some a.number n (sym a.by.given ∙ by.given) in
            (given a.by.user (subst (λ k. Lives entries k a.by.user) same a.by.lives)).1 a.authorized,
      ) answered
