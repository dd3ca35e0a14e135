use Rattle.std.proofs.Common.{◌∙◌, ◌||◌, ◌&&◌, ℕ, List, not, map, ap}
use Rattle.std.specs.List.{slice_get}
use Rattle.est_syntax.specs.Views.{renaming_view}
use Rattle.est_modules.specs.Modules.{is_declared}
use Rattle.est_modules.specs.NamedNumbers.{is_number_of}
use Rattle.est_modules.specs.NumberSets.{numbers_of}
use Rattle.est_modules.specs.Renamings.{is_renamed}
use Rattle.est_modules.specs.Scopes.{binders_of}
use Rattle.est_modules.specs.Visible.{is_local}
use Rattle.est_modules.proofs.TellingNumbers.{passes_without}
use Rattle.est_modules.proofs.Testing.{same_or}
use Rattle.est_checks.specs.Emissions.{emitted_of}
use Rattle.est_checks.proofs.module_emissions.note_own.Goals as goal

pub returns-in_ok-add_difference : goal.returns-in_ok-add_difference
returns-in_ok-add_difference c q found i =
    let visitor = c.args.visitor.now in
    let t = c.args.kept.now.table.now in
    let bs = binders_of c.args.scope.now in
    let rs = map renaming_view c.args.renamings.now in
    let own = λ (s : List ℕ). emitted_of visitor.table.now c.args.name.now s && is_declared q.interface s in
    let passed = λ (s : List ℕ). is_local bs s || is_renamed rs s in
    let old = numbers_of c.args.noted.now i in
    c.in_ok-add_difference.ensures i
    ∙ ap (λ b. old || (b && not (numbers_of c.in_ok-hidden_or_renamed.field-0 i)))
    (c.in-Some.ensures i ∙ c.requires.0.1 c.args.name.now q found i)
    ∙ ap (λ b. old || (is_number_of t own i && not b)) (c.in_ok-hidden_or_renamed.ensures (is_local bs) c.requires.2 i)
    ∙ ap (λ b. old || b) (passes_without own passed (slice_get t.names.items i))

pub returns-in_default : goal.returns-in_default
returns-in_default c q found i =
    let visitor = c.args.visitor.now in
    let t = c.args.kept.now.table.now in
    let bs = binders_of c.args.scope.now in
    let rs = map renaming_view c.args.renamings.now in
    let own = λ (s : List ℕ). emitted_of visitor.table.now c.args.name.now s && is_declared q.interface s in
    let passed = λ (s : List ℕ). is_local bs s || is_renamed rs s in
    let old = numbers_of c.args.noted.now i in
    let o = slice_get t.names.items i in
    same_or old
    ∙ ap (λ b. old || (b && not (is_number_of t passed i)))
    (c.in_default.ensures i ∙ c.requires.0.1 c.args.name.now q found i)
    ∙ ap (λ b. old || b) (passes_without own passed o)
