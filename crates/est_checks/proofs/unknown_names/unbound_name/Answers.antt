use Rattle.std.proofs.Common.{map, option_map, ap, sym, ◌∙◌}
use Rattle.std.proofs.lemmas.List.{at_drop_all}
use Rattle.std.specs.List.{find}
use Rattle.est_syntax.specs.Views.{renaming_view}
use Rattle.est_modules.specs.Modules.{program_of}
use Rattle.est_modules.specs.Scopes.{binders_of}
use Rattle.est_modules.specs.declared.interface.Declared.{Declared}
use Rattle.est_checks.specs.UnknownNames.{is_unbound}
use Rattle.est_checks.proofs.Looping.{found_next, found_later}
use Rattle.est_checks.proofs.unknown_names.unbound_name.Goals as goal

pub returns-then-is_unbound : goal.returns-then-is_unbound
returns-then-is_unbound c =
    let test = λ (d : Declared). is_unbound (program_of c.args.check.now.home.now) (binders_of c.args.scope.now)
    (map renaming_view c.args.renamings.now) d.name in
    sym (ap (option_map (λ (d : Declared). d.name)) (c.loop-declared.invariant
    ∙ found_next test c.args.interface.now c.loop-declared.declared-index c.declared-item.result
    c.loop-declared-test.true c.declared-item.is (sym c.is_unbound.ensures ∙ c.if-is_unbound.true)))

pub loop-declared-preserved : goal.loop-declared-preserved
loop-declared-preserved c =
    let test = λ (d : Declared). is_unbound (program_of c.args.check.now.home.now) (binders_of c.args.scope.now)
    (map renaming_view c.args.renamings.now) d.name in
    c.loop-declared.invariant
    ∙ found_later test c.args.interface.now c.loop-declared.declared-index c.declared-item.result
    c.loop-declared-test.true c.declared-item.is (sym c.is_unbound.ensures ∙ c.if-is_unbound.false)

pub returns : goal.returns
returns c =
    let test = λ (d : Declared). is_unbound (program_of c.args.check.now.home.now) (binders_of c.args.scope.now)
    (map renaming_view c.args.renamings.now) d.name in
    sym (ap (option_map (λ (d : Declared). d.name)) (c.loop-declared.invariant
    ∙ at_drop_all (find test) c.args.interface.now c.loop-declared.declared-index c.loop-declared-test.false))
