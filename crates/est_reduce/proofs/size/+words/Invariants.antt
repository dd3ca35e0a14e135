use Rattle.std.proofs.Common.{◌≡◌, ◌+◌, ◌-◌, drop}
use Rattle.est_kernel.specs.Limits.{joint_word_count}
use Rattle.est_reduce.specs.Views.{bound_joint}
use Rattle.est_reduce.proofs.Tests.{words_of}
use Rattle.est_reduce.proofs.size.+words.Given as goal

abbrev pub invariant-room_after_operands-loop-test : goal.invariant-room_after_operands-loop-test
invariant-room_after_operands-loop-test l =
    l.left - words_of (drop l.test-index l.test-items) ≡ l.fn.room + 1 - joint_word_count (bound_joint l.operands)
