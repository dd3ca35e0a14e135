use Rattle.std.proofs.Common.{◌∙◌, ◌∷◌, [], ap, sym, List, refl, arith}
use Rattle.std.proofs.lemmas.Result.{err_from_is_err_and}
use Rattle.est_text.specs.declared.token.Token.{Token}
use Rattle.est_text.specs.declared.token.Token.TheVariants.{Keyword}
use Rattle.est_text.specs.declared.keyword.Keyword.TheVariants as keyword
use Rattle.est_syntax.specs.declared.units.Head.TheVariants as head
use Rattle.est_syntax.specs.Grammar.{statement_onto}
use Rattle.est_syntax.specs.Views.{statement_view}
use Rattle.est_syntax.specs.Inner.Machine.{one, may, leave, kw_end}
use Rattle.est_syntax.specs.Inner.Frames.{head_onto, again_wants}
use Rattle.est_syntax.specs.declared.parse.TheConstants.{MOST_OPEN_UNITS}
use Rattle.est_syntax.proofs.Folding.{signal_is}
use Rattle.est_syntax.specs.Grammar.{unit_onto, unit_depth}
use Rattle.est_syntax.specs.Tree.{UnitTree}
use Rattle.est_syntax.proofs.TestRuns.{leave_over}
use Rattle.est_syntax.proofs.Reading.{fails_from}
use Rattle.est_syntax.proofs.units.local.Goals as goal

pub returns-in_err-again-clause-err : goal.returns-in_err-again-clause-err
returns-in_err-again-clause-err c =
    let p = err_from_is_err_and c.from_residual.result c.from_residual.ensures.1 in
    rw (p.1, p.2) (fails_from (again_wants (Keyword keyword.Signal)) (one kw_end ∷ may (Keyword keyword.Signal) ∷ [])
    (λ s. leave ∷ s) c.args.cursor.now c.args.cursor.now c.in_err-again.field-0.0
    (λ s. refl) c.in_err-again.ensures.err)

pub returns-clause-ok : goal.returns-clause-ok
returns-clause-ok c = record {
  spelt = ap (λ (l : List Token). head_onto (head.Signal c.args.names)
      (statement_onto (statement_view c.args.body) l)) c.in_ok-again.ensures.spelt
      ∙ ap (λ (u : UnitTree). unit_onto u c.end_again.new.cursor)
      (sym (signal_is c.args.names c.args.body c.in_ok-again.again));
  depth = ap unit_depth (signal_is c.args.names c.args.body c.in_ok-again.again) ∙ omega arith;
  passes = λ s. c.in_ok-again.ensures.reads.passes (leave ∷ s) ∙ leave_over MOST_OPEN_UNITS s c.end_again.new.cursor;
  shorter = c.in_ok-again.ensures.reads.shorter;
}
