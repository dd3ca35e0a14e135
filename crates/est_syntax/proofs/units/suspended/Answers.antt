use Rattle.std.proofs.Common.{◌≤◌, ◌∙◌, ◌∷◌, [], ap, sym, subst, suc, List, refl, arith}
use Rattle.std.specs.Prelude.{Some, None}
use Rattle.std.proofs.lemmas.Result.{err_from_is_err_and}
use Rattle.est_text.specs.declared.token.Token.{Token}
use Rattle.est_text.specs.declared.token.Token.TheVariants.{Keyword}
use Rattle.est_text.specs.declared.keyword.Keyword.TheVariants as keyword
use Rattle.est_syntax.specs.declared.units.Head.TheVariants as head
use Rattle.est_syntax.specs.Grammar.{statement_onto, delay_onto}
use Rattle.est_syntax.specs.Views.{statement_view, delay_view}
use Rattle.est_syntax.specs.Inner.Machine.{leave, may_end}
use Rattle.est_syntax.specs.Inner.Frames.{head_wants, head_onto}
use Rattle.est_syntax.specs.Inner.Parts.{when_wants}
use Rattle.est_syntax.specs.declared.parse.TheConstants.{MOST_OPEN_UNITS}
use Rattle.est_syntax.proofs.Folding.{suspend_is}
use Rattle.est_syntax.specs.Grammar.{unit_onto, unit_depth}
use Rattle.est_syntax.specs.Tree.{UnitTree}
use Rattle.est_syntax.proofs.TestRuns.{leave_over}
use Rattle.est_syntax.proofs.Reading.{ends_leave}
use Rattle.est_syntax.proofs.Opening.{in_before, in_in, round_open}
use Rattle.est_syntax.proofs.units.suspended.Goals as goal

pub returns-in_err-watch-clause-err : goal.returns-in_err-watch-clause-err
returns-in_err-watch-clause-err c =
    let p = err_from_is_err_and c.from_residual.result c.from_residual.ensures.1 in
    rw (p.1, p.2) (in_in (suc c.args.room) c.args.room (Some c.args.ends) None (head_wants head.Suspend) when_wants
    (λ s. may_end (Keyword keyword.Suspend) ∷ leave ∷ s) c.args.cursor.now c.args.cursor.now c.in_err-watch.field-0.0
    (λ s r. round_open c.args.room (may_end (Keyword keyword.Suspend)) (Some c.args.ends) s r refl)
    (λ s r. refl) c.in_err-watch.ensures.err)

pub returns-in_err-written-clause-err : goal.returns-in_err-written-clause-err
returns-in_err-written-clause-err c =
    let p = err_from_is_err_and c.from_residual-in_err-written.result c.from_residual-in_err-written.ensures.1 in
    rw (p.1, p.2)
    (in_before (suc c.args.room) (Some c.args.ends) c.args.ends (head_wants head.Suspend)
    (may_end (Keyword keyword.Suspend) ∷ [])
    (λ s. leave ∷ s) c.args.cursor.now c.watched.new.cursor c.in_err-written.field-0.0
    (λ s r. ends_leave c.args.ends s r.closing)
    (λ s r. c.in_ok-watch.ensures.ok.passes (may_end (Keyword keyword.Suspend) ∷ leave ∷ s)
    (round_open c.args.room (may_end (Keyword keyword.Suspend)) (Some c.args.ends) s r refl))
    c.in_err-written.ensures.err)

pub returns-clause-ok : goal.returns-clause-ok
returns-clause-ok c =
    let is = suspend_is c.args.body c.in_ok-watch.watch c.in_ok-written.written in
    record {
      spelt = ap (λ (l : List Token). head_onto head.Suspend (statement_onto (statement_view c.args.body) l))
          (c.in_ok-watch.ensures.ok.spelt ∙ ap
          (λ (l : List Token). Keyword keyword.When ∷ delay_onto (delay_view c.in_ok-watch.watch) l)
          c.in_ok-written.ensures.spelt) ∙ ap (λ (u : UnitTree). unit_onto u c.end_pair.new.cursor) (sym is);
      fits = λ h k. subst (λ (u : UnitTree). unit_depth u ≤ suc c.args.room) (sym is)
          (omega (arith, k, c.in_ok-watch.ensures.ok.fits));
      passes = λ s r. c.in_ok-watch.ensures.ok.passes (may_end (Keyword keyword.Suspend) ∷ leave ∷ s)
          (round_open c.args.room (may_end (Keyword keyword.Suspend)) (Some c.args.ends) s r refl)
          ∙ c.in_ok-written.ensures.reads.passes (leave ∷ s) (ends_leave c.args.ends s r.closing)
          ∙ leave_over MOST_OPEN_UNITS s c.end_pair.new.cursor;
      shorter = omega (arith, c.in_ok-watch.ensures.ok.shorter, c.in_ok-written.ensures.reads.shorter);
    }
