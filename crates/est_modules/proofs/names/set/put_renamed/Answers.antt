use Rattle.std.proofs.Common.{◌∙◌, ◌||◌, ◌+◌, List, [], map, take, refl, ap, sym, subst}
use Rattle.std.proofs.lemmas.List.{take_all}
use Rattle.std.specs.Str.{bytes_eq}
use Rattle.est_syntax.specs.Tree.{RenamingTree}
use Rattle.est_syntax.specs.Views.{renaming_view}
use Rattle.est_syntax.specs.declared.tree.Renaming.{Renaming}
use Rattle.est_modules.specs.NamedNumbers.{Adds}
use Rattle.est_modules.specs.Renamings.{is_renamed}
use Rattle.est_modules.proofs.Lists.{any_map}
use Rattle.est_modules.proofs.Numbering.{any_next}
use Rattle.est_modules.proofs.TellingNumbers.{adds_none, adds_same, adds_both}
use Rattle.est_modules.proofs.names.set.put_renamed.Goals as goal

pub loop-renaming-init : goal.loop-renaming-init
loop-renaming-init c = adds_none c.args.table.now (is_renamed []) c.args.numbers.now (λ s. refl)

pub loop-renaming-preserved : goal.loop-renaming-preserved
loop-renaming-preserved c =
    let t = c.args.table.now in
    let rs = c.args.renamings.now in
    let k = c.loop-renaming.renaming-index in
    let r = c.renaming-item.result in
    let old = c.args.numbers.now in
    let new = c.put_name.new.numbers in
    let before = is_renamed (map renaming_view (take k rs)) in
    adds_same t (λ s. before s || bytes_eq r.inner s) (is_renamed (map renaming_view (take (k + 1) rs))) old new
    (λ s. ap (λ b. b || bytes_eq r.inner s)
    (any_map (λ (r : RenamingTree). bytes_eq r.inner s) renaming_view (take k rs))
    ∙ any_next (λ (r : Renaming). bytes_eq r.inner s) rs k r c.renaming-item.is c.loop-renaming-test.true
    ∙ sym (any_map (λ (r : RenamingTree). bytes_eq r.inner s) renaming_view (take (k + 1) rs)))
    (adds_both t before (bytes_eq r.inner) old c.loop-renaming.numbers new c.loop-renaming.invariant
    c.in_ok-put_name.ensures)

pub returns : goal.returns
returns c =
    subst
    (λ (rs : List Renaming). Adds c.args.table.now (is_renamed (map renaming_view rs)) c.args.numbers.now
    c.loop-renaming.numbers)
    (take_all c.loop-renaming.renaming-index c.args.renamings.now c.loop-renaming-test.false)
    c.loop-renaming.invariant
