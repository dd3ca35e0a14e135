use Rattle.std.specs.Prelude.{◌||◌}
use Rattle.std.proofs.Common.{◌≡◌, take}
use Rattle.std.specs.List.{fold}
use Rattle.est_kernel.specs.View.{name_of, query_of}
use Rattle.est_kernel.specs.declared.statement.Test.TheViews.{out-Operands}
use Rattle.lab_ties.specs.Ties.{reads}
use Rattle.lab_ties.proofs.Operands.{read_with}
use Rattle.lab_ties.proofs.ties.+read.Given as goal

abbrev pub invariant-reads_of_joint-loop-test : goal.invariant-reads_of_joint-loop-test
invariant-reads_of_joint-loop-test l =
    let x = name_of l.name in
    let parts = out-Operands l.operands in
    l.found
    ≡ fold (read_with x) (reads x (query_of parts.first.value) || reads x (query_of parts.second.value))
    (take l.test-index l.test-items)
