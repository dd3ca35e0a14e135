use Rattle.std.proofs.Common.{◌∙◌, ◌+◌, sym, map, subst, take, arith, List}
use Rattle.std.proofs.lemmas.List.{length-map, length-take-le, take_all}
use Rattle.est_syntax.specs.declared.tree.Renaming.{Renaming}
use Rattle.est_modules.specs.FirstPlaces.{AreFirstPlaces}
use Rattle.est_modules.proofs.Lists.{more}
use Rattle.est_modules.proofs.renamings.RunRenamings.of.Goals as goal

pub loop-index-preserved : goal.loop-index-preserved
loop-index-preserved c =
    let rs = c.args.renamings.now in
    let k = c.loop-index.index in
    let inner = λ (r : Renaming). r.inner in
    let item = c.index-renamings-index.result in
    subst (AreFirstPlaces c.add.new.self)
    (more inner rs k (k + 1) item c.loop-index-test.true (omega arith))
    (c.in_ok-add.ensures (map inner (take k rs)) c.loop-index.invariant
    (sym (length-map (take k rs) inner ∙ length-take-le k rs c.loop-index.auto.index-end)))

pub invariant_of-result : goal.invariant_of-result
invariant_of-result c =
    subst (λ (rs : List Renaming). AreFirstPlaces c.loop-index.places (map (λ (r : Renaming). r.inner) rs))
    (take_all c.loop-index.index c.args.renamings.now c.loop-index-test.false) c.loop-index.invariant
