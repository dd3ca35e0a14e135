use Rattle.std.proofs.Common.{◌≡◌, ◌++◌}
use Rattle.lab_ties.specs.Stuck.{signal_ties}
use Rattle.lab_ties.proofs.stuck.add_all_signal_ties.Given as goal

abbrev pub invariant-loop-place : goal.invariant-loop-place
invariant-loop-place l =
    l.found.items ≡ l.fn.found.items ++ signal_ties l.kernel l.undecided l.net.cells.items l.place
