use Rattle.std.proofs.Common.{◌≡◌, ◌++◌}
use Rattle.lab_lines.specs.Inner.LineParts.{names_left}
use Rattle.lab_lines.proofs.line_parts.write_each_name.Given as goal

abbrev pub invariant-loop-place : goal.invariant-loop-place
invariant-loop-place l =
    l.line ++ names_left l.interface l.signals l.place ≡ l.fn.line ++ names_left l.interface l.signals 0
