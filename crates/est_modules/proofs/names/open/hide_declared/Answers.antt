use Rattle.std.proofs.lemmas.Result.{on_ok_weaker}
use Rattle.std.proofs.Common.{◌||◌, ap}
use Rattle.std.specs.Str.{bytes_eq}
use Rattle.est_syntax.specs.Views.{names_view}
use Rattle.est_modules.specs.Visible.{is_among, stands_in}
use Rattle.est_modules.proofs.TellingNumbers.{adds_same, adds_both}
use Rattle.est_modules.proofs.names.open.hide_declared.Goals as goal

pub returns : goal.returns
returns c =
    let t = c.args.table.now in
    let ns = names_view c.args.names.now in
    let later = c.deref.result.now in
    on_ok_weaker c.put_names.result
    (λ adds. adds_same t (λ s. bytes_eq ns.first s || stands_in later s) (is_among ns) c.args.hidden.now
    c.put_names.new.numbers (λ s. ap (λ l. bytes_eq ns.first s || stands_in l s) c.deref.ensures.value)
    (adds_both t (bytes_eq ns.first) (stands_in later) c.args.hidden.now c.put_name.new.numbers
    c.put_names.new.numbers c.in_ok-put_name.ensures adds))
    c.put_names.ensures
