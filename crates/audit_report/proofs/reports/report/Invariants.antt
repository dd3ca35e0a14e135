use Rattle.std.proofs.Common.{◌≡◌, ◌++◌, take, string_bytes}
use Rattle.audit_report.specs.ReportText.{policy_line, slot_lines}
use Rattle.audit_report.proofs.reports.report.Given as goal

-- the lines so far are written
abbrev pub invariant-loop-number : goal.invariant-loop-number
invariant-loop-number l = string_bytes l.text ≡ policy_line l.policy ++ slot_lines 0 (take l.number l.slots)
