use Rattle.std.proofs.Common.{◌≡◌, ◌∙◌, ◌++◌, string_bytes}
use Rattle.wire_reader.specs.Replies.{waiting_bytes}
use Rattle.program_run.proofs.Reporting.{rest_written, rest_begun}
use Rattle.program_run.proofs.reports.write_report.Goals as goal

pub returns-in_default-write_out-clause-reports : goal.returns-in_default-write_out-clause-reports
returns-in_default-write_out-clause-reports g c =
    let held : waiting_bytes c.in-Ok-new.waiting ++ c.as_bytes.result.now ≡ string_bytes c.in-Ok.text =
    rw c.in-Ok-new.ensures.empty c.as_bytes.ensures.value in
    record {
      text = waiting_bytes c.in-Ok-new.waiting ++ c.as_bytes.result.now;
      report = record { verdict = c.in-Ok.ensures.0; is = c.in-Ok.ensures.1; tells = held ∙ c.in-Ok.ensures.2 };
      front = rest_begun _ _ _ _ _ c.in-Ok-add.ensures.ok c.in_default-write_out.ensures.err;
    }

pub returns-clause-reports : goal.returns-clause-reports
returns-clause-reports g c =
    let held : waiting_bytes c.in-Ok-new.waiting ++ c.as_bytes.result.now ≡ string_bytes c.in-Ok.text =
    rw c.in-Ok-new.ensures.empty c.as_bytes.ensures.value in
    record {
      text = waiting_bytes c.in-Ok-new.waiting ++ c.as_bytes.result.now;
      report = record { verdict = c.in-Ok.ensures.0; is = c.in-Ok.ensures.1; tells = held ∙ c.in-Ok.ensures.2 };
      appended = rest_written _ _ _ _ _ c.in-Ok-add.ensures.ok c.in-Ok-write_out.ensures.ok;
    }
