use Rattle.std.proofs.Common.{◌∙◌, sym}
use Rattle.est_modules.proofs.TellingNumbers.{tells_at}
use Rattle.est_modules.specs.Visible.{is_local}
use Rattle.est_checks.proofs.Noting.{name_noted, name_passed, name_unnumbered}
use Rattle.est_checks.proofs.module_emissions.note_name.Goals as goal

pub returns-in_ok-insert : goal.returns-in_ok-insert
returns-in_ok-insert c bs is tells =
    let t = c.args.kept.now.table.now in
    let n = c.args.name.now in
    let i = c.in-Some.number in
    name_noted t bs n i c.args.noted.now c.insert.new.self is (sym c.in-Some.ensures)
    (sym (tells_at t (is_local bs) c.args.kept.now.hidden n i is tells (sym c.in-Some.ensures))
    ∙ sym c.is_hidden.ensures ∙ c.if-not-is_hidden.true)
    c.in_ok-insert.ensures

pub returns-else-not-is_hidden : goal.returns-else-not-is_hidden
returns-else-not-is_hidden c bs is tells =
    let t = c.args.kept.now.table.now in
    let n = c.args.name.now in
    let i = c.in-Some.number in
    name_passed t bs n c.args.noted.now
    (sym (tells_at t (is_local bs) c.args.kept.now.hidden n i is tells (sym c.in-Some.ensures))
    ∙ sym c.is_hidden.ensures ∙ c.if-not-is_hidden.false)

pub returns-in_default : goal.returns-in_default
returns-in_default c bs is tells =
    name_unnumbered c.args.kept.now.table.now bs c.args.name.now c.args.noted.now is
    (sym c.number.ensures ∙ c.in_default.is)
