use Rattle.std.proofs.Common.{◌≡◌, ◌≤◌, take}
use Rattle.est_syntax.specs.declared.tree.Branches.TheViews.{out-Sequence, out-Statement}
use Rattle.est_checks.specs.Inner.Numbers.{numbers_of}
use Rattle.est_checks.specs.declared.statement_count.TheConstants.{TOO_MANY}
use Rattle.est_checks.proofs.Sums.{so_far, unit_counted, sequence_counted}
use Rattle.est_checks.proofs.statement_count.+count.Given as goal

abbrev pub invariant-count_sequence-loop-unit : goal.invariant-count_sequence-loop-unit
invariant-count_sequence-loop-unit l =
    let here = unit_counted (numbers_of l.numbers) in
    record {
      within : l.count ≤ TOO_MANY;
      done : l.count ≡ so_far TOO_MANY here
          (here (out-Sequence l.sequence).first.value) (take l.unit-index l.unit-items);
    }

abbrev pub invariant-count_statement-loop-sequence : goal.invariant-count_statement-loop-sequence
invariant-count_statement-loop-sequence l =
    let here = sequence_counted (numbers_of l.numbers) in
    record {
      within : l.count ≤ TOO_MANY;
      done : l.count ≡ so_far TOO_MANY here
          (here (out-Statement l.statement).first.value) (take l.sequence-index l.sequence-items);
    }
