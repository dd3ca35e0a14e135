use Rattle.std.proofs.Common.{◌≡◌, take}
use Rattle.std.specs.List.{fold}
use Rattle.std.specs.Option.{option_or}
use Rattle.est_kernel.specs.Bits.{bits}
use Rattle.est_kernel.specs.View.{query_of}
use Rattle.est_kernel.specs.declared.statement.Test.TheViews.{out-Operands}
use Rattle.est_micro.specs.Waiting.{first_read}
use Rattle.est_micro.proofs.OpenTests.{read_with}
use Rattle.est_micro.proofs.waiting.+read.Given as goal

abbrev pub invariant-first_read_of_joint-loop-test : goal.invariant-first_read_of_joint-loop-test
invariant-first_read_of_joint-loop-test l =
    let u = bits l.unasked in
    let parts = out-Operands l.operands in
    l.found
    ≡ fold (read_with u)
    (option_or (first_read u (query_of parts.first.value)) (first_read u (query_of parts.second.value)))
    (take l.test-index l.test-items)
