use Rattle.std.proofs.Common.{◌++◌, ℕ, List, [], ◌∷◌, map, ap, ◌∙◌}
use Rattle.std.proofs.lemmas.List.{take_all}
use Rattle.est_modules.specs.declared.interface.Declared.{Declared}
use Rattle.est_checks.proofs.Looping.{mapped_next}
use Rattle.est_checks.proofs.declared_names.declared_names.Goals as goal

pub loop-declared-preserved : goal.loop-declared-preserved
loop-declared-preserved c =
    let d = c.declared-item.result in
    c.in_ok-push.ensures.items ∙ ap (λ (ns : List (List ℕ)). ns ++ d.name ∷ []) c.loop-declared.invariant
    ∙ mapped_next (λ (d : Declared). d.name) c.args.interface.now c.loop-declared.declared-index d
    c.loop-declared-test.true c.declared-item.is

pub returns : goal.returns
returns c =
    c.loop-declared.invariant ∙ ap (map (λ (d : Declared). d.name))
    (take_all c.loop-declared.declared-index c.args.interface.now c.loop-declared-test.false)
