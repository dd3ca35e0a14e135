use Rattle.std.proofs.Common.{map, option_map, ap, sym, ◌∙◌}
use Rattle.std.proofs.lemmas.List.{at_drop_all}
use Rattle.std.specs.List.{find}
use Rattle.est_syntax.specs.Views.{renaming_view}
use Rattle.est_syntax.specs.declared.tree.Renaming.{Renaming}
use Rattle.est_modules.specs.Modules.{program_of}
use Rattle.est_checks.specs.BadRenamings.{is_misnamed}
use Rattle.est_checks.proofs.Looping.{found_next, found_later}
use Rattle.est_checks.proofs.bad_renamings.misnamed.Goals as goal

pub returns-then-is_misnamed : goal.returns-then-is_misnamed
returns-then-is_misnamed c =
    let rs = c.args.renamings.now in
    sym (ap (option_map (λ (r : Renaming). r.inner)) (c.loop-renaming.invariant
    ∙ found_next (λ (r : Renaming). is_misnamed (program_of c.args.run.now) (map renaming_view rs) r.inner) rs
    c.loop-renaming.renaming-index c.renaming-item.result c.loop-renaming-test.true c.renaming-item.is
    (sym c.is_misnamed.ensures ∙ c.if-is_misnamed.true)))

pub loop-renaming-preserved : goal.loop-renaming-preserved
loop-renaming-preserved c =
    let rs = c.args.renamings.now in
    c.loop-renaming.invariant
    ∙ found_later (λ (r : Renaming). is_misnamed (program_of c.args.run.now) (map renaming_view rs) r.inner) rs
    c.loop-renaming.renaming-index c.renaming-item.result c.loop-renaming-test.true c.renaming-item.is
    (sym c.is_misnamed.ensures ∙ c.if-is_misnamed.false)

pub returns : goal.returns
returns c =
    let rs = c.args.renamings.now in
    sym (ap (option_map (λ (r : Renaming). r.inner)) (c.loop-renaming.invariant
    ∙ at_drop_all (find (λ (r : Renaming). is_misnamed (program_of c.args.run.now) (map renaming_view rs) r.inner)) rs
    c.loop-renaming.renaming-index c.loop-renaming-test.false))
