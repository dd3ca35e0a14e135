use Rattle.std.proofs.Common.{◌∙◌, min, sym, ap}
use Rattle.std.proofs.lemmas.List.{take_all}
use Rattle.est_syntax.specs.declared.tree.Branches.TheViews.{out-Sequence, out-Statement}
use Rattle.est_checks.specs.Inner.Numbers.{numbers_of}
use Rattle.est_checks.specs.declared.statement_count.TheConstants.{TOO_MANY}
use Rattle.est_checks.proofs.Sums.{at_most, counted_next}
use Rattle.est_checks.proofs.Sums.{so_far, whole_count, unit_counted, sequence_counted, sequence_whole, statement_whole}
use Rattle.est_checks.proofs.statement_count.+count.Goals as goal

pub count_sequence-loop-unit-preserved : goal.count_sequence-loop-unit-preserved
count_sequence-loop-unit-preserved t c =
    let here = unit_counted (numbers_of c.args.numbers.now) in
    let first = here (out-Sequence c.args.sequence.now).first.value in
    record {
      within = at_most TOO_MANY c.sum-count.result _ c.sum-count.ensures;
      done = counted_next TOO_MANY here first c.deref-unit-items.result.now c.loop-unit.unit-index
          c.unit-item.result c.loop-unit.count c.count_unit.result c.sum.result c.sum-count.result
          c.loop-unit-test.true c.unit-item.is c.loop-unit.invariant.done c.count_unit.ensures c.sum.ensures
          c.sum-count.ensures;
    }

pub count_sequence-returns : goal.count_sequence-returns
count_sequence-returns t c =
    let s = c.args.sequence.now in
    let here = unit_counted (numbers_of c.args.numbers.now) in
    let first = here (out-Sequence s).first.value in
    c.loop-unit.invariant.done
    ∙ ap (so_far TOO_MANY here first)
    (take_all c.loop-unit.unit-index c.deref-unit-items.result.now c.loop-unit-test.false
    ∙ c.deref-unit-items.ensures.value)
    ∙ whole_count TOO_MANY here first (out-Sequence s).later.items
    ∙ ap (min TOO_MANY) (sym (sequence_whole (numbers_of c.args.numbers.now) s))

pub count_statement-loop-sequence-preserved : goal.count_statement-loop-sequence-preserved
count_statement-loop-sequence-preserved t c =
    let here = sequence_counted (numbers_of c.args.numbers.now) in
    let first = here (out-Statement c.args.statement.now).first.value in
    record {
      within = at_most TOO_MANY c.sum-count.result _ c.sum-count.ensures;
      done = counted_next TOO_MANY here first c.deref-sequence-items.result.now c.loop-sequence.sequence-index
          c.sequence-item.result c.loop-sequence.count c.count_sequence.result c.sum.result c.sum-count.result
          c.loop-sequence-test.true c.sequence-item.is c.loop-sequence.invariant.done
          c.count_sequence.ensures c.sum.ensures c.sum-count.ensures;
    }

pub count_statement-returns : goal.count_statement-returns
count_statement-returns t c =
    let s = c.args.statement.now in
    let here = sequence_counted (numbers_of c.args.numbers.now) in
    let first = here (out-Statement s).first.value in
    c.loop-sequence.invariant.done
    ∙ ap (so_far TOO_MANY here first)
    (take_all c.loop-sequence.sequence-index c.deref-sequence-items.result.now c.loop-sequence-test.false
    ∙ c.deref-sequence-items.ensures.value)
    ∙ whole_count TOO_MANY here first (out-Statement s).later.items
    ∙ ap (min TOO_MANY) (sym (statement_whole (numbers_of c.args.numbers.now) s))
