use Rattle.std.proofs.Common.{◌∙◌, ◌∷◌, [], true, map, ap}
use Rattle.std.specs.Prelude.{Some}
use Rattle.std.proofs.lemmas.Result.{err_from_is_err_and}
use Rattle.est_text.specs.declared.token.Token.TheVariants.{Keyword}
use Rattle.est_text.specs.declared.keyword.Keyword.TheVariants as keyword
use Rattle.est_syntax.specs.Views.{declaration_view, statement_view}
use Rattle.est_syntax.specs.Inner.Machine.{run, one, statement, modules, kw_end}
use Rattle.est_syntax.specs.declared.parse.TheConstants.{MOST_OPEN_UNITS}
use Rattle.est_syntax.proofs.Libraries.{stops_from, stops_in, wants, behind, round_module, heading, headed, bodied}
use Rattle.est_syntax.proofs.Libraries.{module_part}
use Rattle.est_syntax.proofs.modules.module.Goals as goal

pub returns-in_err-body-clause-err : goal.returns-in_err-body-clause-err
returns-in_err-body-clause-err c =
    let p = err_from_is_err_and c.from_residual-in_err-body.result c.from_residual-in_err-body.ensures.1 in
    let n = c.in_ok-name.name in
    let ds = map declaration_view c.in_ok-declarations.declarations.items in
    let old = c.args.cursor.now in
    let a = heading n old c.expect_name.new.self c.expect_symbol.new.self c.in_ok-name.ensures.ok
    c.in_ok-expect_symbol.ensures.ok in
    let h = headed n ds old c.expect_symbol.new.self c.declarations.new.cursor a c.in_ok-declarations.ensures.spelt
    c.in_ok-declarations.ensures.reads in
    rw (p.1, p.2) (stops_in MOST_OPEN_UNITS (Some true) wants
    (statement ∷ []) behind old c.declarations.new.cursor c.in_err-body.field-0.0 round_module h.passes
    c.in_err-body.ensures.err)

pub returns-in_err-expect_keyword-clause-err : goal.returns-in_err-expect_keyword-clause-err
returns-in_err-expect_keyword-clause-err c =
    let p = err_from_is_err_and c.from_residual-in_err-expect_keyword.result
    c.from_residual-in_err-expect_keyword.ensures.1 in
    let n = c.in_ok-name.name in
    let ds = map declaration_view c.in_ok-declarations.declarations.items in
    let old = c.args.cursor.now in
    let a = heading n old c.expect_name.new.self c.expect_symbol.new.self c.in_ok-name.ensures.ok
    c.in_ok-expect_symbol.ensures.ok in
    let h = headed n ds old c.expect_symbol.new.self c.declarations.new.cursor a c.in_ok-declarations.ensures.spelt
    c.in_ok-declarations.ensures.reads in
    let b = bodied n ds (statement_view c.in_ok-body.body) old c.declarations.new.cursor c.statement.new.cursor h
    c.in_ok-body.ensures.ok in
    rw (p.1, p.2) (stops_from wants (one kw_end ∷ [])
    (one (Keyword keyword.Module) ∷ modules ∷ []) old c.statement.new.cursor c.in_err-expect_keyword.field-0.0
    b.passes c.in_err-expect_keyword.ensures.err)

pub returns-in_err-expect_keyword-2-clause-err : goal.returns-in_err-expect_keyword-2-clause-err
returns-in_err-expect_keyword-2-clause-err c =
    let p = err_from_is_err_and c.from_residual-in_err-expect_keyword-2.result
    c.from_residual-in_err-expect_keyword-2.ensures.1 in
    let n = c.in_ok-name.name in
    let ds = map declaration_view c.in_ok-declarations.declarations.items in
    let old = c.args.cursor.now in
    let a = heading n old c.expect_name.new.self c.expect_symbol.new.self c.in_ok-name.ensures.ok
    c.in_ok-expect_symbol.ensures.ok in
    let h = headed n ds old c.expect_symbol.new.self c.declarations.new.cursor a c.in_ok-declarations.ensures.spelt
    c.in_ok-declarations.ensures.reads in
    let b = bodied n ds (statement_view c.in_ok-body.body) old c.declarations.new.cursor c.statement.new.cursor h
    c.in_ok-body.ensures.ok in
    rw (p.1, p.2) (stops_from wants (one (Keyword keyword.Module) ∷ [])
    (modules ∷ []) old c.expect_keyword.new.self c.in_err-expect_keyword-2.field-0.0
    (b.passes ∙ ap (run MOST_OPEN_UNITS behind) c.in_ok-expect_keyword.ensures.ok)
    c.in_err-expect_keyword-2.ensures.err)

pub returns-clause-ok : goal.returns-clause-ok
returns-clause-ok c =
    let n = c.in_ok-name.name in
    let ds = map declaration_view c.in_ok-declarations.declarations.items in
    let t = statement_view c.in_ok-body.body in
    let old = c.args.cursor.now in
    let a = heading n old c.expect_name.new.self c.expect_symbol.new.self c.in_ok-name.ensures.ok
    c.in_ok-expect_symbol.ensures.ok in
    let h = headed n ds old c.expect_symbol.new.self c.declarations.new.cursor a c.in_ok-declarations.ensures.spelt
    c.in_ok-declarations.ensures.reads in
    let b = bodied n ds t old c.declarations.new.cursor c.statement.new.cursor h c.in_ok-body.ensures.ok in
    module_part n ds t old c.statement.new.cursor c.expect_keyword.new.self c.expect_keyword-2.new.self b
    c.in_ok-expect_keyword.ensures.ok c.in_ok-expect_keyword-2.ensures.ok
