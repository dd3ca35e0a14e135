-- Answers by rules whose refusals are converted.
use Rattle.std.proofs.Common.{inl, inr, refl}
use Rattle.refusal_rules.specs.Rules.{Rules, accept, ◌▸◌, ◌▸▸◌, Answers}
use Rattle.refusal_rules.proofs.RuleLemmas.{refuse, pass}
use Rattle.reactor_core.specs.Converting.{all_converted}

-- an answer by rules is one by the same rules with each refusal converted, where what is accepted is answered by what
-- follows
pub convert : {A B : Type 0} (as_other : A → B) (rules : Rules A) (later : Rules B) (Refused : A → Type 0)
    (Accepted : Type 0)
    (Told : B → Type 0) (Done : Type 0)
    → ((refusal : A) → Refused refusal → Told (as_other refusal)) → (Accepted → Answers later Told Done)
    → Answers rules Refused Accepted → Answers (all_converted as_other rules ▸▸ later) Told Done
convert as_other accept later Refused Accepted Told Done told goes h = goes h
convert as_other (rule ▸ rest) later Refused Accepted Told Done told goes (inl refuses) =
    refuse (as_other refuses.refusal) (refuses.refusal, refl, refuses.given) (told refuses.refusal refuses.answered)
convert as_other (rule ▸ rest) later Refused Accepted Told Done told goes (inr passes) =
    pass passes.passed (convert as_other rest later Refused Accepted Told Done told goes passes.next)
