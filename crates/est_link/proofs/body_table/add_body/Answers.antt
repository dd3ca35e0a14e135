use Rattle.std.proofs.Common.{◌∙◌, map, sym, subst}
use Rattle.std.proofs.lemmas.Result.{on_ok_weaker}
use Rattle.est_modules.specs.Modules.{program_of}
use Rattle.est_modules.proofs.Testing.{some_same}
use Rattle.est_checks.proofs.Seeing.{module_at}
use Rattle.est_link.specs.Inner.Tables.{IsGrown}
use Rattle.est_link.proofs.Made.{grown}
use Rattle.est_link.proofs.body_table.add_body.Goals as goal

pub returns : goal.returns
returns c =
    let ps = map program_of c.args.modules.now in
    let home = c.index-as_slice-place.result in
    let old = c.args.bodies.now in
    let new = c.add.new.self in
    on_ok_weaker c.add.result
    (λ said p at.
    let same = some_same (program_of home) p
    (sym (module_at c.args.modules.now c.as_slice.result.now c.args.place home c.as_slice.ensures c.requires
    c.index-as_slice-place.is) ∙ at) in
    subst (λ q. IsGrown ps old q new) same (grown ps old (program_of home) c.in_ok-body.body new c.in_ok-body.ensures
    said))
    c.add.ensures
