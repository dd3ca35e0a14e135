-- Rules of refusal, and how an answer is read off a list of them (this project's own form).
use Rattle.std.specs.Prelude.{◌≡◌, ◌⊎◌, ℕ, zero, suc, Result, MatchResult}

-- a rule has two sides: when it refuses, and with which refusal; and what it hands on where it lets pass
pub record Rule (R : Type 0) : Type 1 where
  pub refuses : R → Type 0
  pub passes : Type 0

-- refuses with this where the fact holds, and else lets pass
abbrev pub RefuseIf : {R : Type 0} → R → Type 0 → Rule R
RefuseIf refusal Fact = record { refuses = λ given. (given ≡ refusal) × Fact; passes = Fact → ⊥ }

-- lets pass where the fact holds, and hands it on; refuses with this where it doesn't
abbrev pub RefuseUnless : {R : Type 0} → Type 0 → R → Rule R
RefuseUnless Fact refusal = record { refuses = λ given. (given ≡ refusal) × (Fact → ⊥); passes = Fact }

-- refuses with the refusal of the thing for which the fact holds, and lets pass where it holds for none
abbrev pub RefuseNaming : {R Thing : Type 0} → (Thing → R) → (Thing → Type 0) → Rule R
RefuseNaming {Thing = Thing} refusal Fact = record {
  refuses = λ given. (thing : Thing) × (given ≡ refusal thing) × Fact thing;
  passes = (thing : Thing) → Fact thing → ⊥;
}

-- refuses with this or lets pass: the rule leaves open which
abbrev pub MayRefuse : {R : Type 0} → R → Rule R
MayRefuse refusal = record { refuses = λ given. given ≡ refusal; passes = Unit {0} }

infixr 3 ◌▸◌
infixr 2 ◌▸▸◌
-- rules in the order in which they are asked; after the last one the command is accepted
pub data Rules (R : Type 0) : Type 1 where
  accept : Rules R
  ◌▸◌ : Rule R → Rules R → Rules R

-- the rule refuses, and the answer is the refusal that it gives
pub record Refuses {R : Type 0} (rule : Rule R) (Refused : R → Type 0) : Type 0 where
  pub refusal : R
  pub given : rule.refuses refusal
  pub answered : Refused refusal

-- the rule lets pass, and what follows it answers
pub record Passes {R : Type 0} (rule : Rule R) (Next : Type 0) : Type 0 where
  pub passed : rule.passes
  pub next : Next

-- the answer by these rules: the refusal of the first that doesn't let pass, or the command is accepted, where all do.
-- Refused says what it is to be answered with a refusal, and Accepted what it is to be accepted
abbrev pub Answers : {R : Type 0} → Rules R → (Refused : R → Type 0) → (Accepted : Type 0) → Type 0
Answers accept Refused Accepted = Accepted
Answers (rule ▸ later) Refused Accepted = Refuses rule Refused ⊎ Passes rule (Answers later Refused Accepted)

-- a test of the rule: it passes where the rule lets pass, and else answers a refusal that the rule gives
abbrev pub Tests : {R : Type 0} → Rule R → Result (Unit {0}) R → Type 0
Tests rule answer = MatchResult answer (λ _. rule.passes) rule.refuses

-- the rules of the first list, and then those of the second
abbrev pub ◌▸▸◌ : {R : Type 0} → Rules R → Rules R → Rules R
accept ▸▸ later = later
(rule ▸ rest) ▸▸ later = rule ▸ (rest ▸▸ later)

-- the n-th of the rules, counted from 0, refuses with this
abbrev pub RefusesAt : {R : Type 0} → Rules R → (n : ℕ) → R → Type 0
RefusesAt accept n refusal = ⊥
RefusesAt (rule ▸ later) zero refusal = rule.refuses refusal
RefusesAt (rule ▸ later) (suc n) refusal = RefusesAt later n refusal

-- each of the first n rules lets pass
abbrev pub PassBefore : {R : Type 0} → Rules R → (n : ℕ) → Type 0
PassBefore accept n = Unit {0}
PassBefore (rule ▸ later) zero = Unit {0}
PassBefore (rule ▸ later) (suc n) = rule.passes × PassBefore later n

-- each rule lets pass
abbrev pub AllPass : {R : Type 0} → Rules R → Type 0
AllPass accept = Unit {0}
AllPass (rule ▸ later) = rule.passes × AllPass later

-- the first rule that refuses gives this refusal: some rule gives it, and all before that one let pass
pub record FirstRefuses {R : Type 0} (rules : Rules R) (refusal : R) : Type 0 where
  pub place : ℕ
  pub refuses : RefusesAt rules place refusal
  pub passed : PassBefore rules place

-- a test of the rules: it passes where each lets pass, and else answers the refusal of the first that doesn't
abbrev pub TestsAll : {R : Type 0} → Rules R → Result (Unit {0}) R → Type 0
TestsAll rules answer = MatchResult answer (λ _. AllPass rules) (FirstRefuses rules)

-- the rule refuses or lets pass, not both, and it gives one refusal at most
pub record IsDefinite {R : Type 0} (rule : Rule R) : Type 0 where
  pub exclusive : (refusal : R) → rule.refuses refusal → rule.passes → ⊥
  pub one : (a b : R) → rule.refuses a → rule.refuses b → a ≡ b

-- each rule is definite
abbrev pub AllDefinite : {R : Type 0} → Rules R → Type 0
AllDefinite accept = Unit {0}
AllDefinite (rule ▸ later) = IsDefinite rule × AllDefinite later
