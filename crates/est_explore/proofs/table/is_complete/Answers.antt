use Rattle.std.proofs.Common.{◌≤◌, ◌∙◌, T, sym, subst}
use Rattle.std.proofs.Math.Facts.{leb_yes}
use Rattle.est_explore.proofs.TableLemmas.{closed_table}
use Rattle.est_explore.proofs.table.is_complete.Goals as goal

pub returns-clause-table : goal.returns-clause-table
returns-clause-table c = λ m watched e yes.
    let w : c.len.result ≤ c.args.found.now.done =
    leb_yes {a = c.len.result} {b = c.args.found.now.done} (subst T (sym yes) tt) in
    closed_table m watched c.args.found.now e (rw (c.len.ensures ∙ c.args.found.now.nodes.ok.0) at w)
