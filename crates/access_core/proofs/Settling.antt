-- Rules that leave nothing open except some refusals: apart from those, their answer is determined.
use Rattle.std.proofs.Common.{◌≡◌, ◌∙◌, inl, inr, sym, ap, subst}
use Rattle.refusal_rules.specs.Rules.{Rule, Rules, RefuseUnless, RefuseIf, MayRefuse, accept, ◌▸◌, Answers, IsDefinite}
use Rattle.refusal_rules.proofs.RuleLemmas.{says, unless}
use Rattle.reactor_core.specs.Converting.{converted}

-- the rule refuses or lets pass, not both, and it gives one refusal at most, leaving aside the refusals that are apart
pub record IsDefiniteApart {R : Type 0} (Apart : R → Type 0) (rule : Rule R) : Type 0 where
  pub exclusive : (refusal : R) → ¬ (Apart refusal) → rule.refuses refusal → rule.passes → ⊥
  pub one : (a b : R) → ¬ (Apart a) → ¬ (Apart b) → rule.refuses a → rule.refuses b → a ≡ b

abbrev pub AllDefiniteApart : {R : Type 0} → (R → Type 0) → Rules R → Type 0
AllDefiniteApart Apart accept = Unit {0}
AllDefiniteApart Apart (rule ▸ later) = IsDefiniteApart Apart rule × AllDefiniteApart Apart later

pub definite : {R : Type 0} {Apart : R → Type 0} {rule : Rule R} → IsDefinite rule → IsDefiniteApart Apart rule
definite d =
    record {
      exclusive = λ refusal _ given passed. d.exclusive refusal given passed;
      one = λ a b _ _ x y. d.one a b x y;
    }

pub settled_unless : {R : Type 0} {Apart : R → Type 0} {refusal : R} {Fact : Type 0}
    → IsDefiniteApart Apart (RefuseUnless Fact refusal)
settled_unless = definite unless

pub settled_says : {R : Type 0} {Apart : R → Type 0} {refusal : R} {Fact : Type 0}
    → IsDefiniteApart Apart (RefuseIf refusal Fact)
settled_says = definite says

-- a rule that leaves open whether it refuses is settled where its refusal is apart
pub settled_apart : {R : Type 0} {refusal : R} → IsDefiniteApart (λ given. given ≡ refusal) (MayRefuse refusal)
settled_apart = record { exclusive = λ given here is _. here is; one = λ a b here _ is _. absurd (here is) }

-- a definite rule of another crate, whose refusals are converted
pub settled_converted : {A B : Type 0} {Apart : B → Type 0} {convert : A → B} {rule : Rule A} → IsDefinite rule
    → IsDefiniteApart Apart (converted convert rule)
settled_converted {convert = convert} d = record {
  exclusive = λ refusal _ given passed. d.exclusive given.0 given.2 passed;
  one = λ a b _ _ x y. x.1 ∙ ap convert (d.one x.0 y.0 x.2 y.2) ∙ sym y.1;
}

-- two answers by settled rules are equal, where neither is a refusal that is apart
pub both_answers : {R : Type 0} {Apart : R → Type 0} {Same : Type 0} (rules : Rules R) → AllDefiniteApart Apart rules
    → (Refused Told : R → Type 0) (Accepted Done : Type 0)
    → ((refusal : R) → Refused refusal → ¬ (Apart refusal)) → ((refusal : R) → Told refusal → ¬ (Apart refusal))
    → ((refusal : R) → Refused refusal → Told refusal → Same) → (Accepted → Done → Same)
    → Answers rules Refused Accepted → Answers rules Told Done → Same
both_answers accept settled Refused Told Accepted Done here there refused does x y = does x y
both_answers (rule ▸ later) settled Refused Told Accepted Done here there refused does (inl x) (inl y) =
    let same = settled.0.one x.refusal y.refusal (here x.refusal x.answered)
    (there y.refusal y.answered) x.given y.given in
    refused x.refusal x.answered (subst Told (sym same) y.answered)
both_answers (rule ▸ later) settled Refused Told Accepted Done here there refused does (inl x) (inr y) =
    absurd (settled.0.exclusive x.refusal (here x.refusal x.answered) x.given y.passed)
both_answers (rule ▸ later) settled Refused Told Accepted Done here there refused does (inr x) (inl y) =
    absurd (settled.0.exclusive y.refusal (there y.refusal y.answered) y.given x.passed)
both_answers (rule ▸ later) settled Refused Told Accepted Done here there refused does (inr x) (inr y) =
    both_answers later settled.1 Refused Told Accepted Done here there refused does x.next y.next
