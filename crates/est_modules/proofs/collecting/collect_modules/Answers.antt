use Rattle.std.proofs.Common.{◌∷◌, ◌∙◌, sym, ap, map}
use Rattle.std.proofs.lemmas.List.{take_all}
use Rattle.est_syntax.specs.Views.{module_view}
use Rattle.est_modules.specs.Modules.{module_program, program_of}
use Rattle.est_modules.proofs.Lists.{map_map}
use Rattle.est_modules.proofs.collecting.collect_modules.Goals as goal

pub returns : goal.returns
returns c =
    let first = module_program (module_view c.args.library.now.first) in
    let items = c.deref-later-items.result.now in
    ap (map program_of) c.of.ensures
    ∙ c.loop-later.invariant.modules
    ∙ ap (λ ms. first ∷ map (λ m. module_program (module_view m)) ms)
    (take_all c.loop-later.later-index items c.loop-later-test.false ∙ c.deref-later-items.ensures.value)
    ∙ sym (ap (λ ms. first ∷ ms) (map_map module_program module_view c.args.library.now.later.items))
