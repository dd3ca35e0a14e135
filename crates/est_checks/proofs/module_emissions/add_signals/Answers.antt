use Rattle.std.proofs.Common.{◌∙◌, ◌||◌, ◌&&◌, ℕ, List, take, ap, refl}
use Rattle.std.specs.Str.{bytes_eq}
use Rattle.est_modules.specs.Modules.{is_declared}
use Rattle.est_modules.specs.NameSets.{has}
use Rattle.est_modules.specs.NameTables.{number_in}
use Rattle.est_modules.specs.declared.interface.Declared.{Declared}
use Rattle.est_modules.proofs.Numbering.{any_next}
use Rattle.est_checks.specs.Inner.Noted.{is_noted}
use Rattle.est_checks.proofs.Noting.{at_same, set_more}
use Rattle.est_checks.proofs.module_emissions.add_signals.Goals as goal

pub loop-declared-preserved : goal.loop-declared-preserved
loop-declared-preserved c s =
    let t = c.args.names.now in
    let row = c.args.noted.now in
    let ds = c.args.interface.now in
    let k = c.loop-declared.declared-index in
    let d = c.declared-item.result in
    let old = has c.args.set.now s in
    let noted = is_noted row (number_in t s) in
    c.in_ok-add_noted.ensures s
    ∙ ap (λ b. has c.loop-declared.set s || b)
    (at_same (λ (u : List ℕ). is_noted row (number_in t u)) d.name s (bytes_eq d.name s) refl)
    ∙ ap (λ b. b || (noted && bytes_eq d.name s)) (c.loop-declared.invariant s)
    ∙ set_more old noted (is_declared (take k ds) s) (bytes_eq d.name s)
    ∙ ap (λ b. old || (noted && b))
    (any_next (λ (d : Declared). bytes_eq d.name s) ds k d c.declared-item.is c.loop-declared-test.true)
