-- Rules whose facts are tests: what the answer by them is, in a word (this project's own form).
use Rattle.std.specs.Prelude.{Bool, true, false, IsTrue, List, [], ◌∷◌, Result, Ok, Err}
use Rattle.refusal_rules.specs.Rules.{Rules, RefuseIf, accept, ◌▸◌}

-- rules which say these refusals where their tests are true
abbrev pub tested : {R : Type 0} → List (R × Bool) → Rules R
tested [] = accept
tested (test ∷ later) = RefuseIf test.0 (IsTrue test.1) ▸ tested later

-- this refusal where the test is true, and else the answer that follows
abbrev pub refused_if : {R : Type 0} → R → Bool → Result (Unit {0}) R → Result (Unit {0}) R
refused_if refusal true later = Err refusal
refused_if refusal false later = later

-- the refusal of the first test that is true
abbrev pub first_true : {R : Type 0} → List (R × Bool) → Result (Unit {0}) R
first_true [] = Ok (record {})
first_true (test ∷ later) = refused_if test.0 test.1 (first_true later)
