use Rattle.std.proofs.Common.{◌≡◌, ◌∙◌, List, map, take, ap, sym}
use Rattle.std.proofs.lemmas.List.{take_all}
use Rattle.est_link.specs.Inner.Meant.{again}
use Rattle.est_link.specs.Inner.OpenBodies.{meaning_of}
use Rattle.est_link.specs.declared.meaning.Meaning.{Meaning}
use Rattle.est_link.proofs.UsedSignals.{meanings_kept}
use Rattle.est_link.proofs.used_signals.UsedSignals.add_meanings.Goals as goal

pub returns-clause-has : goal.returns-clause-has
returns-clause-has c =
    let k = c.loop-meaning.meaning-index in
    let ms : List Meaning = c.args.run.now.meanings.items in
    let whole : take k c.deref-meaning-items.result.now ≡ ms =
    take_all k c.deref-meaning-items.result.now c.loop-meaning-test.false ∙ c.deref-meaning-items.ensures.value in
    meanings_kept c.add-2.new.self c.args.run.now
    (λ g means.
    ap (map (λ (m : Meaning). again g (meaning_of m))) (sym whole)
    ∙ c.loop-meaning.invariant.kept g (c.in_ok-add-2.ensures.grown.1 g means)
    ∙ ap (map meaning_of) whole)
    c.in_ok-add-2.ensures.has
