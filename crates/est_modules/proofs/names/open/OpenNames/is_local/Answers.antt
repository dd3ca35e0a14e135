use Rattle.std.proofs.Common.{◌∙◌, sym}
use Rattle.est_modules.specs.Scopes.{binders_of}
use Rattle.est_modules.specs.Visible.{is_local}
use Rattle.est_modules.proofs.TellingNumbers.{tells_at}
use Rattle.est_modules.proofs.names.open.OpenNames.is_local.Goals as goal

pub returns-in-Some : goal.returns-in-Some
returns-in-Some c =
    let o = c.args.self.now in
    c.is_hidden.ensures
    ∙ tells_at o.table.now (is_local (binders_of c.args.scope.now)) o.hidden c.args.name.now c.in-Some.number
    c.requires.table c.requires.hidden (sym c.in-Some.ensures)
