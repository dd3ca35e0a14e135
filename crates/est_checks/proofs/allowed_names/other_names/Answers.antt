use Rattle.std.proofs.Common.{◌||◌, not, ◌++◌, ℕ, List, [], ◌∷◌, filter, map, ap, sym, ◌∙◌}
use Rattle.std.proofs.lemmas.List.{take_all}
use Rattle.est_modules.specs.NameSets.{has}
use Rattle.est_modules.specs.Visible.{is_tick}
use Rattle.est_modules.specs.declared.interface.Declared.{Declared}
use Rattle.est_checks.proofs.Looping.{filtered_in, filtered_out}
use Rattle.est_checks.proofs.allowed_names.other_names.Goals as goal
use Rattle.est_checks.proofs.allowed_names.other_names.Goals.{then-is_other+in_ok-push, else-is_other}

pub loop-declared-preserved : goal.loop-declared-preserved
loop-declared-preserved c =
    let other = λ (n : List ℕ). not (has c.args.inputs.now n || is_tick n) in
    let name = λ (d : Declared). d.name in
    let ds = c.args.interface.now in
    let i = c.loop-declared.declared-index in
    let d = c.declared-item.result in
    elim c.if-is_other.branch [
      | then-is_other+in_ok-push w ↦
          rw w.others-is
          (w.in_ok-push.ensures.items ∙ ap (λ (ns : List (List ℕ)). ns ++ d.name ∷ []) c.loop-declared.invariant
          ∙ filtered_in other name ds i d c.loop-declared-test.true c.declared-item.is
          (sym c.is_other.ensures ∙ w.if-is_other.true))
      | else-is_other w ↦
          rw w.others-is
          (c.loop-declared.invariant
          ∙ filtered_out other name ds i d c.loop-declared-test.true c.declared-item.is
          (sym c.is_other.ensures ∙ w.if-is_other.false))
    ]

pub returns : goal.returns
returns c =
    let other = λ (n : List ℕ). not (has c.args.inputs.now n || is_tick n) in
    c.loop-declared.invariant
    ∙ ap (λ (ds : List Declared). filter other (map (λ (d : Declared). d.name) ds))
    (take_all c.loop-declared.declared-index c.args.interface.now c.loop-declared-test.false)
