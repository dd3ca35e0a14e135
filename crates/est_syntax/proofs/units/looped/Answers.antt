use Rattle.std.proofs.Common.{◌≡◌, ◌≤◌, ◌∙◌, ◌∷◌, [], ap, sym, subst, suc, List, length, refl, arith}
use Rattle.std.specs.Prelude.{None}
use Rattle.std.proofs.lemmas.Result.{err_from_is_err_and}
use Rattle.est_text.specs.declared.token.Token.{Token}
use Rattle.est_text.specs.declared.token.Token.TheVariants.{Keyword}
use Rattle.est_text.specs.declared.keyword.Keyword.TheVariants as keyword
use Rattle.est_syntax.specs.declared.units.Head.TheVariants as head
use Rattle.est_syntax.specs.Grammar.{statement_onto}
use Rattle.est_syntax.specs.Views.{statement_view}
use Rattle.est_syntax.specs.Inner.Machine.{run, one, may, test, loop_tail, leave, kw_end}
use Rattle.est_syntax.specs.Inner.Frames.{head_wants}
use Rattle.est_syntax.specs.declared.parse.TheConstants.{MOST_OPEN_UNITS}
use Rattle.est_syntax.proofs.Folding.{repeat_is, repeat_each_is}
use Rattle.est_syntax.specs.Grammar.{unit_onto, unit_depth}
use Rattle.est_syntax.specs.Tree.{UnitTree}
use Rattle.est_syntax.proofs.TestRuns.{leave_over}
use Rattle.est_syntax.proofs.Reading.{loop_tail_is}
use Rattle.est_syntax.proofs.Opening.{in_in, in_leaf, round_branches}
use Rattle.est_syntax.proofs.units.looped.Goals as goal

pub returns-in_err-each-clause-err : goal.returns-in_err-each-clause-err
returns-in_err-each-clause-err c =
    let p = err_from_is_err_and c.from_residual.result c.from_residual.ensures.1 in
    rw (p.1, p.2) (in_in (suc c.args.room) c.args.room None None (head_wants head.Loop) (test ∷ [])
    (λ s. leave ∷ s) c.args.cursor.now c.take_keyword.new.self c.in_err-each.field-0.0
    (λ s r. round_branches c.args.room None s r)
    (λ s r. ap (run MOST_OPEN_UNITS (loop_tail ∷ leave ∷ s)) (c.if-take_keyword.ensures.first refl))
    c.in_err-each.ensures.err)

pub returns-then-take_keyword-clause-ok : goal.returns-then-take_keyword-clause-ok
returns-then-take_keyword-clause-ok c =
    let first : c.args.cursor.now ≡ Keyword keyword.Each ∷ c.take_keyword.new.self =
    c.if-take_keyword.ensures.first refl in
    let each = c.in_ok-each.ensures.ok in
    let all = first ∙ ap (λ (l : List Token). Keyword keyword.Each ∷ l) each.spelt in
    let is = repeat_each_is c.args.body c.in_ok-each.each in
    record {
      spelt = ap (λ (l : List Token). Keyword keyword.Loop ∷ statement_onto (statement_view c.args.body) l) all
          ∙ ap (λ (u : UnitTree). unit_onto u c.test.new.cursor) (sym is);
      fits = λ h k. subst (λ (u : UnitTree). unit_depth u ≤ suc c.args.room) (sym is) (omega (arith, k, each.fits));
      passes = λ s r. ap (run MOST_OPEN_UNITS (loop_tail ∷ leave ∷ s)) first
          ∙ each.passes (leave ∷ s) (round_branches c.args.room None s r)
          ∙ leave_over MOST_OPEN_UNITS s c.test.new.cursor;
      shorter = omega (arith, ap (length {A = Token}) first, each.shorter);
    }

pub returns-in_err-again-clause-err : goal.returns-in_err-again-clause-err
returns-in_err-again-clause-err c =
    let p = err_from_is_err_and c.from_residual-in_err-again.result c.from_residual-in_err-again.ensures.1 in
    rw (p.1, p.2) (in_leaf (suc c.args.room) None (head_wants head.Loop) (one kw_end ∷ may (Keyword keyword.Loop) ∷ [])
    (λ s. leave ∷ s) c.args.cursor.now c.take_keyword.new.self c.in_err-again.field-0.0
    (λ s r. loop_tail_is (leave ∷ s) c.args.cursor.now (c.if-take_keyword.ensures.other refl)
    ∙ ap (run MOST_OPEN_UNITS (one kw_end ∷ may (Keyword keyword.Loop) ∷ leave ∷ s))
    (sym (c.if-take_keyword.ensures.same refl))) c.in_err-again.ensures.err)

pub returns-clause-ok : goal.returns-clause-ok
returns-clause-ok c =
    let same : c.take_keyword.new.self ≡ c.args.cursor.now = c.if-take_keyword.ensures.same refl in
    let all = sym same ∙ c.in_ok-again.ensures.spelt in
    let is = repeat_is c.args.body c.in_ok-again.again in
    record {
      spelt = ap (λ (l : List Token). Keyword keyword.Loop ∷ statement_onto (statement_view c.args.body) l) all
          ∙ ap (λ (u : UnitTree). unit_onto u c.end_again.new.cursor) (sym is);
      fits = λ h k. subst (λ (u : UnitTree). unit_depth u ≤ suc c.args.room) (sym is) (omega (arith, k));
      passes = λ s r. loop_tail_is (leave ∷ s) c.args.cursor.now (c.if-take_keyword.ensures.other refl)
          ∙ ap (run MOST_OPEN_UNITS (one kw_end ∷ may (Keyword keyword.Loop) ∷ leave ∷ s)) (sym same)
          ∙ c.in_ok-again.ensures.reads.passes (leave ∷ s) ∙ leave_over MOST_OPEN_UNITS s c.end_again.new.cursor;
      shorter = omega (arith, ap (length {A = Token}) same, c.in_ok-again.ensures.reads.shorter);
    }
