use Rattle.std.proofs.Common.{◌≡◌, ◌+◌, ◌-◌, drop}
use Rattle.est_kernel.specs.Limits.{joint_word_count}
use Rattle.est_kernel.specs.View.{joint_of}
use Rattle.est_kernel.proofs.Tests.{words_of}
use Rattle.est_kernel.proofs.limits.+words.Given as goal

abbrev pub invariant-room_after_operands-loop-test : goal.invariant-room_after_operands-loop-test
invariant-room_after_operands-loop-test l =
    l.left - words_of (drop l.test-index l.test-items) ≡ l.fn.room + 1 - joint_word_count (joint_of l.operands)
