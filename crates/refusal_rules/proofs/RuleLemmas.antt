-- Steps through an ordered list of rules.
use Rattle.std.proofs.Common.{◌≡◌, ◌⊎◌, ◌∙◌, ℕ, zero, suc, ◌<◌, inl, inr, sym, ap, ⊎_elim, arith}
use Rattle.std.specs.Prelude.{Result, Ok, Err}
use Rattle.refusal_rules.specs.Rules.{Rule, Rules, RefuseIf, RefuseUnless, RefuseNaming, accept, ◌▸◌, ◌▸▸◌, Refuses}
use Rattle.refusal_rules.specs.Rules.{Passes, Answers, RefusesAt, PassBefore, AllPass, FirstRefuses, IsDefinite}
use Rattle.refusal_rules.specs.Rules.{AllDefinite}

-- the rule refuses
pub refuse : {R : Type 0} {rule : Rule R} {Refused : R → Type 0} {Next : Type 0} (refusal : R) → rule.refuses refusal
    → Refused refusal
    → Refuses rule Refused ⊎ Passes rule Next
refuse refusal given answered = inl (record { refusal = refusal; given = given; answered = answered })

-- the rule lets pass, and what follows answers
pub pass : {R : Type 0} {rule : Rule R} {Refused : R → Type 0} {Next : Type 0} → rule.passes → Next
    → Refuses rule Refused ⊎ Passes rule Next
pass passed next = inr (record { passed = passed; next = next })

-- two lists, the one after the other
pub append : {R : Type 0} (rules later : Rules R) (Refused : R → Type 0) (Accepted : Type 0)
    → Answers rules Refused (Answers later Refused Accepted) → Answers (rules ▸▸ later) Refused Accepted
append accept later Refused Accepted h = h
append (rule ▸ rest) later Refused Accepted (inl refuses) = inl refuses
append (rule ▸ rest) later Refused Accepted (inr passes) =
    pass passes.passed (append rest later Refused Accepted passes.next)

-- a list is cut in two
pub split : {R : Type 0} (rules later : Rules R) (Refused : R → Type 0) (Accepted : Type 0)
    → Answers (rules ▸▸ later) Refused Accepted → Answers rules Refused (Answers later Refused Accepted)
split accept later Refused Accepted h = h
split (rule ▸ rest) later Refused Accepted (inl refuses) = inl refuses
split (rule ▸ rest) later Refused Accepted (inr passes) =
    pass passes.passed (split rest later Refused Accepted passes.next)

-- what follows from being refused and from being accepted follows from the answer
pub answered : {R : Type 0} (rules : Rules R) (Refused : R → Type 0) (Accepted Known : Type 0)
    → ((refusal : R) → Refused refusal → Known) → (Accepted → Known) → Answers rules Refused Accepted → Known
answered accept Refused Accepted Known refused accepted h = accepted h
answered (rule ▸ later) Refused Accepted Known refused accepted (inl refuses) = refused refuses.refusal refuses.answered
answered (rule ▸ later) Refused Accepted Known refused accepted (inr passes) =
    answered later Refused Accepted Known refused accepted passes.next

-- where the answer is no refusal, each rule lets pass, and the command is accepted
pub all_passed : {R : Type 0} (rules : Rules R) (Refused : R → Type 0) (Accepted : Type 0)
    → ((refusal : R) → Refused refusal → ⊥) → Answers rules Refused Accepted → AllPass rules × Accepted
all_passed accept Refused Accepted none h = (record {}, h)
all_passed (rule ▸ later) Refused Accepted none (inl refuses) = absurd (none refuses.refusal refuses.answered)
all_passed (rule ▸ later) Refused Accepted none (inr passes) =
    let rest = all_passed later Refused Accepted none passes.next in
    ((passes.passed, rest.0), rest.1)

-- where each rule lets pass, the command is accepted
pub accepted : {R : Type 0} (rules : Rules R) (Refused : R → Type 0) (Accepted : Type 0) → AllPass rules → Accepted
    → Answers rules Refused Accepted
accepted accept Refused Accepted all h = h
accepted (rule ▸ later) Refused Accepted all h = pass all.0 (accepted later Refused Accepted all.1 h)

-- the refusal of the rule at this place, where those before it let pass
refused_at : {R : Type 0} (rules : Rules R) (Refused : R → Type 0) (Accepted : Type 0) (place : ℕ) (refusal : R)
    → RefusesAt rules place refusal → PassBefore rules place → Refused refusal → Answers rules Refused Accepted
refused_at accept Refused Accepted place refusal refuses passed h = absurd refuses
refused_at (rule ▸ later) Refused Accepted zero refusal refuses passed h = refuse refusal refuses h
refused_at (rule ▸ later) Refused Accepted (suc place) refusal refuses passed h =
    pass passed.0 (refused_at later Refused Accepted place refusal refuses passed.1 h)

-- the answer is the refusal of the first rule that refuses
pub refused : {R : Type 0} (rules : Rules R) (Refused : R → Type 0) (Accepted : Type 0) (refusal : R)
    → FirstRefuses rules refusal → Refused refusal → Answers rules Refused Accepted
refused rules Refused Accepted refusal first h =
    refused_at rules Refused Accepted first.place refusal first.refuses first.passed h

-- the answer is the refusal of the first rule that refuses, or each rule lets pass and the command is accepted
pub first_or_none : {R : Type 0} (rules : Rules R) (Refused : R → Type 0) (Accepted : Type 0)
    → Answers rules Refused Accepted
    → ((refusal : R) × FirstRefuses rules refusal × Refused refusal) ⊎ (AllPass rules × Accepted)
first_or_none accept Refused Accepted h = inr (record {}, h)
first_or_none (rule ▸ later) Refused Accepted (inl refuses) =
    inl (refuses.refusal, record { place = zero; refuses = refuses.given; passed = record {} }, refuses.answered)
first_or_none (rule ▸ later) Refused Accepted (inr passes) =
    ⊎_elim
    (λ first. inl (
      first.0,
      record { place = suc first.1.place; refuses = first.1.refuses; passed = (passes.passed, first.1.passed) },
      first.2,
    ))
    (λ none. inr ((passes.passed, none.0), none.1))
    (first_or_none later Refused Accepted passes.next)

-- of definite rules, those before the first that refuses give no refusal
pub silent_before : {R : Type 0} (rules : Rules R) → AllDefinite rules → (place earlier : ℕ) (refusal : R)
    → PassBefore rules place → earlier < place → RefusesAt rules earlier refusal → ⊥
silent_before accept definite place earlier refusal passed before refuses = refuses
silent_before (rule ▸ later) definite zero earlier refusal passed before refuses = absurd (omega arith)
silent_before (rule ▸ later) definite (suc place) zero refusal passed before refuses =
    definite.0.exclusive refusal refuses passed.0
silent_before (rule ▸ later) definite (suc place) (suc earlier) refusal passed before refuses =
    silent_before later definite.1 place earlier refusal passed.1 (omega arith) refuses

-- definite rules give one answer
pub one_answer : {R A : Type 0} (rules : Rules R) → AllDefinite rules → (given : A) (a b : Result A R)
    → Answers rules (λ refusal. a ≡ Err refusal) (a ≡ Ok given)
    → Answers rules (λ refusal. b ≡ Err refusal) (b ≡ Ok given) → a ≡ b
one_answer accept definite given a b x y = x ∙ sym y
one_answer (rule ▸ later) definite given a b (inl x) (inl y) =
    x.answered ∙ ap Err (definite.0.one x.refusal y.refusal x.given y.given) ∙ sym y.answered
one_answer (rule ▸ later) definite given a b (inl x) (inr y) = absurd (definite.0.exclusive x.refusal x.given y.passed)
one_answer (rule ▸ later) definite given a b (inr x) (inl y) = absurd (definite.0.exclusive y.refusal y.given x.passed)
one_answer (rule ▸ later) definite given a b (inr x) (inr y) = one_answer later definite.1 given a b x.next y.next

pub says : {R : Type 0} {refusal : R} {Fact : Type 0} → IsDefinite (RefuseIf refusal Fact)
says = record { exclusive = λ refusal given silent. silent given.1; one = λ a b x y. x.0 ∙ sym y.0 }

pub unless : {R : Type 0} {refusal : R} {Fact : Type 0} → IsDefinite (RefuseUnless Fact refusal)
unless = record { exclusive = λ refusal given fact. given.1 fact; one = λ a b x y. x.0 ∙ sym y.0 }

-- a rule that names the one thing for which the fact holds
pub naming : {R Thing : Type 0} {refusal : Thing → R} {Fact : Thing → Type 0}
    → ((one other : Thing) → Fact one → Fact other → one ≡ other)
    → IsDefinite (RefuseNaming refusal Fact)
naming {refusal = refusal} one = record {
  exclusive = λ _ given none. none given.0 given.2;
  one = λ a b x y. x.1 ∙ ap refusal (one x.0 y.0 x.2 y.2) ∙ sym y.1;
}
