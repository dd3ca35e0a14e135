use Rattle.std.proofs.Common.{◌≡◌, ◌≤◌, take}
use Rattle.est_syntax.specs.declared.tree.Literal.TheViews.{out-Conjunction, out-Expression}
use Rattle.est_checks.specs.declared.statement_count.TheConstants.{TOO_MANY}
use Rattle.est_checks.proofs.Sums.{so_far, literal_counted, conjunction_counted}
use Rattle.est_checks.proofs.word_count.+words.Given as goal

abbrev pub invariant-conjunction_words-loop-literal : goal.invariant-conjunction_words-loop-literal
invariant-conjunction_words-loop-literal l =
    record {
      within : l.count ≤ TOO_MANY;
      done : l.count
          ≡ so_far TOO_MANY literal_counted (literal_counted (out-Conjunction l.conjunction).first.value)
          (take l.literal-index l.literal-items);
    }

abbrev pub invariant-expression_words-loop-conjunction : goal.invariant-expression_words-loop-conjunction
invariant-expression_words-loop-conjunction l =
    record {
      within : l.count ≤ TOO_MANY;
      done : l.count
          ≡ so_far TOO_MANY conjunction_counted (conjunction_counted (out-Expression l.expression).first.value)
          (take l.conjunction-index l.conjunction-items);
    }
