use Rattle.std.proofs.Common.{◌≡◌, ℕ, take}
use Rattle.std.specs.Prelude.{◌&&◌}
use Rattle.std.specs.List.{fold}
use Rattle.est_kernel.specs.declared.statement.Test.TheViews.{out-Operands}
use Rattle.est_kernel.specs.View.{query_of}
use Rattle.est_kernel.specs.Inner.Counting.{Counts, each_signal, is_seen}
use Rattle.est_kernel.proofs.Tests.{and_each}
use Rattle.est_kernel.proofs.closed.+asks.Given as goal

abbrev pub invariant-all_ask_visible-loop-test : goal.invariant-all_ask_visible-loop-test
invariant-all_ask_visible-loop-test l =
    (n : ℕ) → Counts n l.locals → l.all ≡ fold (and_each (is_seen l.interface n))
    (each_signal (is_seen l.interface n) (query_of (out-Operands l.operands).first.value)
    && each_signal (is_seen l.interface n) (query_of (out-Operands l.operands).second.value))
    (take l.test-index l.test-items)
