use Rattle.std.proofs.Common.{◌∙◌, min, sym, ap}
use Rattle.std.proofs.lemmas.List.{take_all}
use Rattle.est_syntax.specs.declared.tree.Literal.TheViews.{out-Conjunction, out-Expression}
use Rattle.est_checks.specs.declared.statement_count.TheConstants.{TOO_MANY}
use Rattle.est_checks.proofs.Sums.{at_most, counted_next}
use Rattle.est_checks.proofs.Sums.{so_far, whole_count, literal_counted, conjunction_counted, conjunction_whole}
use Rattle.est_checks.proofs.Sums.{expression_whole}
use Rattle.est_checks.proofs.word_count.+words.Goals as goal

pub conjunction_words-loop-literal-preserved : goal.conjunction_words-loop-literal-preserved
conjunction_words-loop-literal-preserved t c =
    let first = literal_counted (out-Conjunction c.args.conjunction.now).first.value in
    record {
      within = at_most TOO_MANY c.sum-count.result _ c.sum-count.ensures;
      done = counted_next TOO_MANY literal_counted first c.deref-literal-items.result.now c.loop-literal.literal-index
          c.literal-item.result c.loop-literal.count c.literal_words.result c.sum.result c.sum-count.result
          c.loop-literal-test.true c.literal-item.is c.loop-literal.invariant.done c.literal_words.ensures c.sum.ensures
          c.sum-count.ensures;
    }

pub conjunction_words-returns : goal.conjunction_words-returns
conjunction_words-returns t c =
    let s = c.args.conjunction.now in
    let first = literal_counted (out-Conjunction s).first.value in
    c.loop-literal.invariant.done
    ∙ ap (so_far TOO_MANY literal_counted first)
    (take_all c.loop-literal.literal-index c.deref-literal-items.result.now c.loop-literal-test.false
    ∙ c.deref-literal-items.ensures.value)
    ∙ whole_count TOO_MANY literal_counted first (out-Conjunction s).later.items
    ∙ ap (min TOO_MANY) (sym (conjunction_whole s))

pub expression_words-loop-conjunction-preserved : goal.expression_words-loop-conjunction-preserved
expression_words-loop-conjunction-preserved t c =
    let first = conjunction_counted (out-Expression c.args.expression.now).first.value in
    record {
      within = at_most TOO_MANY c.sum-count.result _ c.sum-count.ensures;
      done = counted_next TOO_MANY conjunction_counted first c.deref-conjunction-items.result.now
          c.loop-conjunction.conjunction-index c.conjunction-item.result c.loop-conjunction.count
          c.conjunction_words.result c.sum.result c.sum-count.result c.loop-conjunction-test.true c.conjunction-item.is
          c.loop-conjunction.invariant.done c.conjunction_words.ensures c.sum.ensures c.sum-count.ensures;
    }

pub expression_words-returns : goal.expression_words-returns
expression_words-returns t c =
    let s = c.args.expression.now in
    let first = conjunction_counted (out-Expression s).first.value in
    c.loop-conjunction.invariant.done
    ∙ ap (so_far TOO_MANY conjunction_counted first)
    (take_all c.loop-conjunction.conjunction-index c.deref-conjunction-items.result.now
    c.loop-conjunction-test.false ∙ c.deref-conjunction-items.ensures.value)
    ∙ whole_count TOO_MANY conjunction_counted first (out-Expression s).later.items
    ∙ ap (min TOO_MANY) (sym (expression_whole s))
