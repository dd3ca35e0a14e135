use Rattle.std.proofs.Common.{◌-◌, ◌≤◌, length, take, IsTrue}
use Rattle.std.specs.List.{list_all}
use Rattle.est_text.specs.Pieces.{is_in_line}
use Rattle.est_text.proofs.scan.line_len.Given as goal

abbrev pub invariant-loop-count : goal.invariant-loop-count
invariant-loop-count l =
    record { within : l.count ≤ length l.rest; same : IsTrue (list_all is_in_line (take l.count l.rest)) }

abbrev pub decreases-loop-count : goal.decreases-loop-count
decreases-loop-count l = length l.rest - l.count
