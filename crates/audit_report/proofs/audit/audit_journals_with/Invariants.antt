use Rattle.audit_report.specs.Findings.{AreSlotsLegal}
use Rattle.audit_report.proofs.audit.audit_journals_with.Given as goal

-- the journals so far are legal
abbrev pub invariant-loop-number : goal.invariant-loop-number
invariant-loop-number g l = AreSlotsLegal l.entries l.slots l.number
