use Rattle.std.proofs.Common.{◌++◌, ℕ, List, [], ◌∷◌, filter, map, ap, sym, ◌∙◌}
use Rattle.std.proofs.lemmas.List.{take_all}
use Rattle.est_modules.specs.NameSets.{has}
use Rattle.est_modules.specs.declared.interface.Declared.{Declared}
use Rattle.est_checks.proofs.Looping.{filtered_in, filtered_out}
use Rattle.est_checks.proofs.run_emissions.names_in.Goals as goal
use Rattle.est_checks.proofs.run_emissions.names_in.Goals.{then-contains+in_ok-push, else-contains}

pub loop-declared-preserved : goal.loop-declared-preserved
loop-declared-preserved c =
    let name = λ (d : Declared). d.name in
    let ds = c.args.interface.now in
    let i = c.loop-declared.declared-index in
    let d = c.declared-item.result in
    elim c.if-contains.branch [
      | then-contains+in_ok-push w ↦
          rw w.names-is
          (w.in_ok-push.ensures.items ∙ ap (λ (ns : List (List ℕ)). ns ++ d.name ∷ []) c.loop-declared.invariant
          ∙ filtered_in (has c.args.set.now) name ds i d c.loop-declared-test.true c.declared-item.is
          (sym c.contains.ensures ∙ w.if-contains.true))
      | else-contains w ↦
          rw w.names-is
          (c.loop-declared.invariant
          ∙ filtered_out (has c.args.set.now) name ds i d c.loop-declared-test.true c.declared-item.is
          (sym c.contains.ensures ∙ w.if-contains.false))
    ]

pub returns : goal.returns
returns c =
    c.loop-declared.invariant
    ∙ ap (λ (ds : List Declared). filter (has c.args.set.now) (map (λ (d : Declared). d.name) ds))
    (take_all c.loop-declared.declared-index c.args.interface.now c.loop-declared-test.false)
