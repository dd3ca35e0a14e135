use Rattle.std.proofs.Common.{◌∙◌, map, ap, sym}
use Rattle.est_link.proofs.Meanings.{test_meant}
use Rattle.est_link.proofs.UsedSignals.{joint_kept}
use Rattle.est_link.proofs.used_signals.UsedSignals.+tests.Goals as goal
use Rattle.est_reduce.specs.Views.{bound_query}

pub add_operands-returns-clause-has : goal.add_operands-returns-clause-has
add_operands-returns-clause-has t c g means =
    let second = c.in_ok-add_tests.ensures.grown.1 g means in
    let first = c.in_ok-add_test-2.ensures.grown.1 g second in
    joint_kept g c.args.operands.now
    (ap (test_meant g) (sym c.deref.ensures) ∙ c.in_ok-add_test.ensures.has g first ∙ ap bound_query c.deref.ensures)
    (ap (test_meant g) (sym c.deref-2.ensures) ∙ c.in_ok-add_test-2.ensures.has g second
    ∙ ap bound_query c.deref-2.ensures)
    (ap (map (test_meant g)) (sym c.deref-3.ensures.value) ∙ c.in_ok-add_tests.ensures.has g means
    ∙ ap (map bound_query) c.deref-3.ensures.value)
