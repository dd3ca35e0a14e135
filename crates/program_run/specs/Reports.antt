-- What comes of writing the report of an audit (this project's own form).
use Rattle.std.specs.Prelude.{◌≡◌, ℕ, List, Option, Result, Ok, Err, ⊤}
use Rattle.std.specs.Io.KnownBytes.{Appends, Keeps}
use Rattle.rbac_policy.specs.declared.commands.Entry.{Entry}
use Rattle.reactor_core.specs.declared.entry.SlotEntry.{SlotEntry}
use Rattle.wire_reader.specs.Writing.{WritesFront}
use Rattle.audit_report.specs.declared.finding.Finding.{Finding}
use Rattle.audit_report.specs.Findings.{IsVerdict}
use Rattle.audit_report.specs.ReportText.{report_text}
use Rattle.program_run.specs.declared.fault.Fault.{Fault}
use Rattle.program_run.specs.declared.fault.Fault.TheVariants as fault

-- the text is the report on these journals, with the verdict of their audit
pub record IsReport (entries : List Entry) (slots : List (List SlotEntry)) (text : List ℕ) : Type 0 where
  pub verdict : Result (Unit {0}) Finding
  pub is : IsVerdict entries slots verdict
  pub tells : text ≡ report_text entries slots verdict

-- the report is written
pub record IsReported (entries : List Entry) (slots : List (List SlotEntry))
    (written after : Option (List ℕ)) : Type 0 where
  pub text : List ℕ
  pub report : IsReport entries slots text
  pub appended : Appends written after text

-- a beginning of the report is written
pub record IsCutShort (entries : List Entry) (slots : List (List SlotEntry))
    (written after : Option (List ℕ)) : Type 0 where
  pub text : List ℕ
  pub report : IsReport entries slots text
  pub front : WritesFront written after text

-- the report is written; or memory was refused for it, and nothing is; or its writer failed, and a beginning of it is
abbrev pub Reports : List Entry → (slots : List (List SlotEntry)) → (written : Option (List ℕ)) → Result ⊤ Fault
    → (after : Option (List ℕ)) → Type 0
Reports entries slots written (Ok _) after = IsReported entries slots written after
Reports entries slots written (Err fault.Memory) after = Keeps written after
Reports entries slots written (Err fault.Write) after = IsCutShort entries slots written after
Reports entries slots written (Err _) after = ⊥
