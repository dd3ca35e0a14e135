use Rattle.std.proofs.Common.{◌≡◌, ◌∙◌, ◌∷◌, ap, sym, subst, refl}
use Rattle.est_text.specs.declared.token.Token.TheVariants.{Keyword}
use Rattle.est_text.specs.declared.keyword.Keyword.TheVariants.{Weak}
use Rattle.est_syntax.specs.Inner.Machine.{run, may_end_weak, kw_end, Skips}
use Rattle.est_syntax.specs.declared.parse.TheConstants.{MOST_OPEN_UNITS}
use Rattle.est_syntax.proofs.Reading.{weak_ends}
use Rattle.est_syntax.proofs.closings.weak_end.Goals as goal

pub returns-then-not-ends-clause-err : goal.returns-then-not-ends-clause-err
returns-then-not-ends-clause-err c =
    let x = c.take_keyword.new.self in
    let start : c.args.cursor.now ≡ kw_end ∷ x = sym c.fork-ahead.ensures ∙ c.if-not-take_keyword.ensures.first refl in
    let same : c.take_keyword-2.new.self ≡ x = c.if-take_keyword.ensures.same refl in
    let no_weak = subst (Skips (Keyword Weak)) same (c.if-take_keyword-2.ensures.other refl) in (
      x,
      c.count-left.ensures,
      λ s h. ap (run MOST_OPEN_UNITS (may_end_weak ∷ s)) start
          ∙ weak_ends c.args.ends c.count-left.result x c.count-left.ensures
          (c.if-take_keyword.ensures.other refl) no_weak c.then-not-ends.either s h,
    )
