use Rattle.std.proofs.Common.{◌||◌, ◌+◌, ℕ, List, [], take, refl, subst}
use Rattle.std.proofs.lemmas.List.{take_all}
use Rattle.std.specs.Str.{bytes_eq}
use Rattle.est_modules.specs.NamedNumbers.{Adds}
use Rattle.est_modules.specs.Visible.{stands_in}
use Rattle.est_modules.proofs.Numbering.{any_next}
use Rattle.est_modules.proofs.TellingNumbers.{adds_none, adds_same, adds_both}
use Rattle.est_modules.proofs.names.set.put_names.Goals as goal

pub loop-name-init : goal.loop-name-init
loop-name-init c = adds_none c.args.table.now (stands_in []) c.args.numbers.now (λ s. refl)

pub loop-name-preserved : goal.loop-name-preserved
loop-name-preserved c =
    let t = c.args.table.now in
    let ns = c.args.names.now in
    let k = c.loop-name.name-index in
    let n = c.name-item.result in
    let old = c.args.numbers.now in
    let new = c.put_name.new.numbers in
    adds_same t (λ s. stands_in (take k ns) s || bytes_eq n s) (stands_in (take (k + 1) ns)) old new
    (λ s. any_next (λ m. bytes_eq m s) ns k n c.name-item.is c.loop-name-test.true)
    (adds_both t (stands_in (take k ns)) (bytes_eq n) old c.loop-name.numbers new c.loop-name.invariant
    c.in_ok-put_name.ensures)

pub returns : goal.returns
returns c =
    subst (λ (ns : List (List ℕ)). Adds c.args.table.now (stands_in ns) c.args.numbers.now c.loop-name.numbers)
    (take_all c.loop-name.name-index c.args.names.now c.loop-name-test.false) c.loop-name.invariant
