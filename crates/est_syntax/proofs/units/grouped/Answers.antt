use Rattle.std.proofs.Common.{◌∙◌, ◌∷◌, [], ap, sym, List, length, refl, arith}
use Rattle.std.proofs.lemmas.Result.{err_from_is_err_and}
use Rattle.est_text.specs.declared.token.Token.{Token}
use Rattle.est_text.specs.declared.token.Token.TheVariants.{Symbol}
use Rattle.est_text.specs.declared.token.Symbol.TheVariants as symbol
use Rattle.est_syntax.specs.declared.units.Head.TheVariants as head
use Rattle.est_syntax.specs.Grammar.{statement_onto}
use Rattle.est_syntax.specs.Views.{statement_view}
use Rattle.est_syntax.specs.Inner.Machine.{run, one, leave}
use Rattle.est_syntax.specs.Inner.Frames.{head_wants}
use Rattle.est_syntax.specs.declared.parse.TheConstants.{MOST_OPEN_UNITS}
use Rattle.est_syntax.proofs.Folding.{group_is}
use Rattle.est_syntax.specs.Grammar.{unit_onto, unit_depth}
use Rattle.est_syntax.specs.Tree.{UnitTree}
use Rattle.est_syntax.proofs.TestRuns.{leave_over}
use Rattle.est_syntax.proofs.Reading.{fails_from}
use Rattle.est_syntax.proofs.units.grouped.Goals as goal

pub returns-in_err-expect_symbol-clause-err : goal.returns-in_err-expect_symbol-clause-err
returns-in_err-expect_symbol-clause-err c =
    let p = err_from_is_err_and c.from_residual.result c.from_residual.ensures.1 in
    rw (p.1, p.2) (fails_from (head_wants head.Group) (one (Symbol symbol.CloseBracket) ∷ [])
    (λ s. leave ∷ s) c.args.cursor.now c.args.cursor.now c.in_err-expect_symbol.field-0.0
    (λ s. refl) c.in_err-expect_symbol.ensures.err)

pub returns-clause-ok : goal.returns-clause-ok
returns-clause-ok c = record {
  spelt = ap (λ (l : List Token). Symbol symbol.OpenBracket ∷ statement_onto (statement_view c.args.body) l)
      c.in_ok-expect_symbol.ensures.ok ∙ ap (λ (u : UnitTree). unit_onto u c.expect_symbol.new.self)
      (sym (group_is c.args.body));
  depth = ap unit_depth (group_is c.args.body) ∙ omega arith;
  passes = λ s. ap (run MOST_OPEN_UNITS (one (Symbol symbol.CloseBracket) ∷ leave ∷ s))
      c.in_ok-expect_symbol.ensures.ok ∙ leave_over MOST_OPEN_UNITS s c.expect_symbol.new.self;
  shorter = omega (arith, ap (length {A = Token}) c.in_ok-expect_symbol.ensures.ok);
}
