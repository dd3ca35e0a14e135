-- Rules of refusal of a crate below, with each of its refusals as one of this crate (this project's own form).
use Rattle.std.specs.Prelude.{◌≡◌}
use Rattle.refusal_rules.specs.Rules.{Rule, Rules, accept, ◌▸◌}

-- the rule, with each refusal as another
abbrev pub converted : {A B : Type 0} → (A → B) → Rule A → Rule B
converted {A = A} convert rule = record {
  refuses = λ given. (refusal : A) × (given ≡ convert refusal) × rule.refuses refusal;
  passes = rule.passes;
}

-- the rules in the same order, so converted
abbrev pub all_converted : {A B : Type 0} → (A → B) → Rules A → Rules B
all_converted convert accept = accept
all_converted convert (rule ▸ later) = converted convert rule ▸ all_converted convert later
