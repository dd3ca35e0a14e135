use Rattle.std.proofs.Common.{◌∙◌, ◌&&◌, map, not, ap, sym}
use Rattle.est_syntax.specs.Views.{renaming_view}
use Rattle.est_modules.specs.Modules.{program_of}
use Rattle.est_modules.specs.Scopes.{binders_of}
use Rattle.est_modules.specs.Visible.{is_local}
use Rattle.est_modules.proofs.TellingNumbers.{adds_none, adds_same, adds_both}
use Rattle.est_checks.specs.Emissions.{emitted_of, emits_in_run}
use Rattle.est_checks.proofs.Leaving.{and_false}
use Rattle.est_checks.proofs.Noting.{run_emitted}
use Rattle.est_checks.proofs.module_emissions.note_run.Goals as goal

pub returns-in_ok-note_renamed : goal.returns-in_ok-note_renamed
returns-in_ok-note_renamed c =
    let visitor = c.args.visitor.now in
    let t = c.args.kept.now.table.now in
    let ps = map program_of visitor.modules.now in
    let em = emitted_of visitor.table.now in
    let bs = binders_of c.args.scope.now in
    let rs = map renaming_view c.args.renamings.now in
    let m = c.args.name.now in
    let q = program_of c.in-Some.run'.now in
    let found = sym c.in-Some.ensures in
    adds_same t _ _ c.args.noted.now c.note_renamed.new.noted
    (λ s. run_emitted ps em bs rs m q s found
    ∙ ap (λ o. not (is_local bs s) && emits_in_run em s rs o) (sym found))
    (adds_both t _ _ c.args.noted.now c.note_own.new.noted c.note_renamed.new.noted
    (c.in_ok-note_own.ensures q found) (c.in_ok-note_renamed.ensures bs c.requires.1 c.requires.2))

pub returns-in_default : goal.returns-in_default
returns-in_default c =
    let em = emitted_of c.args.visitor.now.table.now in
    let bs = binders_of c.args.scope.now in
    let rs = map renaming_view c.args.renamings.now in
    adds_none c.args.kept.now.table.now _ c.args.noted.now
    (λ s. ap (λ o. not (is_local bs s) && emits_in_run em s rs o) (sym c.in_default.ensures)
    ∙ and_false (not (is_local bs s)))
