use Rattle.std.proofs.Common.{◌∷◌, ◌||◌}
use Rattle.est_syntax.specs.Views.{names_view}
use Rattle.est_modules.specs.Occurrences.{signals}
use Rattle.est_modules.specs.Visible.{is_among, is_local}
use Rattle.est_modules.proofs.TellingNumbers.{tells_put, tells_same}
use Rattle.est_modules.proofs.Testing.{or_turned}
use Rattle.est_modules.proofs.names.open.OpenNames.inside.Goals as goal

pub returns-clause-hidden : goal.returns-clause-hidden
returns-clause-hidden c bs tells =
    let t = c.args.self.now.table.now in
    let ns = names_view c.args.names.now in
    let new = c.hide_declared.new.hidden in
    tells_same t (λ s. is_local bs s || is_among ns s) (is_local (signals ns ∷ bs)) new
    (λ s. or_turned (is_local bs s) (is_among ns s))
    (tells_put t (is_local bs) (is_among ns) c.args.self.now.hidden c.in_ok-hidden.hidden new c.in_ok-hidden.ensures
    c.in_ok-hide_declared.ensures tells)
