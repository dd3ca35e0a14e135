use Rattle.std.proofs.Common.{◌∷◌, [], map}
use Rattle.std.proofs.lemmas.Result.{err_from_is_err_and}
use Rattle.est_text.specs.declared.token.Token.TheVariants.{Keyword}
use Rattle.est_text.specs.declared.keyword.Keyword.TheVariants as keyword
use Rattle.est_syntax.specs.Views.{module_view}
use Rattle.est_syntax.specs.Inner.Machine.{one}
use Rattle.est_syntax.proofs.Libraries.{stops_from, wants, start, library_is, library_left}
use Rattle.est_syntax.proofs.modules.library.Goals as goal

pub returns-in_err-expect_keyword-clause-err : goal.returns-in_err-expect_keyword-clause-err
returns-in_err-expect_keyword-clause-err c =
    let p = err_from_is_err_and c.from_residual.result c.from_residual.ensures.1 in
    let old = c.args.cursor.now in
    rw (p.1, p.2) (stops_from start (one (Keyword keyword.Module) ∷ []) wants old old
    c.in_err-expect_keyword.field-0.0 (library_is old) c.in_err-expect_keyword.ensures.err)

pub returns-then-left-ne0-clause-err : goal.returns-then-left-ne0-clause-err
returns-then-left-ne0-clause-err c = (
  c.later_modules.new.cursor,
  c.count-left.ensures,
  library_left (module_view c.in_ok-first.first)
      (map module_view c.in_ok-later.later.items) c.count-left.result c.args.cursor.now c.expect_keyword.new.self
      c.module.new.cursor c.later_modules.new.cursor c.in_ok-expect_keyword.ensures.ok c.in_ok-first.ensures.ok
      c.in_ok-later.ensures.ok c.count-left.ensures c.if-left-ne0.true,
)
