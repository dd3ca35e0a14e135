use Rattle.std.proofs.Common.{◌≡◌, drop}
use Rattle.est_kernel.specs.View.{joint_of}
use Rattle.est_kernel.specs.declared.statement.Test.TheViews.{out-Operands}
use Rattle.est_left.specs.Inner.Sameness.{same_joint}
use Rattle.est_left.proofs.Listed.{same_listed}
use Rattle.est_left.proofs.same_test.+tests.Given as goal

abbrev pub invariant-are_same_operands-loop-at : goal.invariant-are_same_operands-loop-at
invariant-are_same_operands-loop-at l =
    same_listed (drop l.at (out-Operands l.one).later.items) (drop l.at (out-Operands l.other).later.items)
    ≡ same_joint (joint_of l.one) (joint_of l.other)
