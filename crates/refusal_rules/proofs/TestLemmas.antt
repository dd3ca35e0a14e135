-- The answer by rules that are tests.
use Rattle.std.proofs.Common.{rules, ◌≡◌, Bool, true, false, List, [], ◌∷◌, refl}
use Rattle.std.specs.Prelude.{Result, Ok, Err}
use Rattle.refusal_rules.specs.Rules.{AllDefinite, Answers}
use Rattle.refusal_rules.specs.Deciding.{tested, first_true}
use Rattle.refusal_rules.proofs.RuleLemmas.{refuse, pass, says, one_answer}

all_definite : {R : Type 0} (tests : List (R × Bool)) → AllDefinite (tested tests)
all_definite [] = record {}
all_definite (test ∷ later) = (says, all_definite later)

-- the first true test's refusal is an answer
answers_first : {R : Type 0} (tests : List (R × Bool))
    → Answers (tested tests) (λ refusal. first_true tests ≡ Err refusal) (first_true tests ≡ Ok (record {}))
answers_first [] = refl
answers_first ((refusal, true) ∷ later) = refuse refusal (refl, search rules) refl
answers_first ((refusal, false) ∷ later) = pass (λ never. cc) (answers_first later)

-- and the only one
pub is_first_true : {R : Type 0} (tests : List (R × Bool)) (answer : Result (Unit {0}) R)
    → Answers (tested tests) (λ refusal. answer ≡ Err refusal) (answer ≡ Ok (record {})) → answer ≡ first_true tests
is_first_true tests answer h =
    one_answer (tested tests) (all_definite tests) (record {}) answer (first_true tests) h (answers_first tests)
