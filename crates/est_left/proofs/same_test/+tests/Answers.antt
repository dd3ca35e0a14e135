use Rattle.std.proofs.Common.{◌≡◌, true, false, arith}
use Rattle.est_kernel.specs.View.{query_of}
use Rattle.est_kernel.specs.declared.statement.Test.TheViews.{out-Operands}
use Rattle.est_left.specs.Inner.Sameness.{same_query}
use Rattle.est_left.proofs.Listed.{numbers_tell, seconds_tell, later_tell}
use Rattle.est_left.proofs.same_test.+tests.Goals as goal

pub are_same_operands-returns-then-len : goal.are_same_operands-returns-then-len
are_same_operands-returns-then-len t c =
    numbers_tell c.args.one.now c.args.other.now (λ same. omega (arith, same, c.if-len.true))

pub are_same_operands-returns-then-not-is_same_test-2 :
    goal.are_same_operands-returns-then-not-is_same_test-2
are_same_operands-returns-then-not-is_same_test-2 t c =
    let differ : same_query (query_of (out-Operands c.args.one.now).second.value)
    (query_of (out-Operands c.args.other.now).second.value) ≡ false = cc in
    seconds_tell c.args.one.now c.args.other.now differ

pub are_same_operands-loop-at-init : goal.are_same_operands-loop-at-init
are_same_operands-loop-at-init t c =
    let first : same_query (query_of (out-Operands c.args.one.now).first.value)
    (query_of (out-Operands c.args.other.now).first.value) ≡ true = cc in
    let second : same_query (query_of (out-Operands c.args.one.now).second.value)
    (query_of (out-Operands c.args.other.now).second.value) ≡ true = cc in
    later_tell c.args.one.now c.args.other.now first second
