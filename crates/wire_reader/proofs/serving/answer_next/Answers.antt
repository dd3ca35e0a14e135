use Rattle.std.proofs.Common.{refl, inl, inr}
use Rattle.std.specs.Cow.{cow_slice_items}
use Rattle.std.specs.Io.KnownBytes.{prepend_known}
use Rattle.wire_reader.specs.Readers.{held_bytes, last_line}
use Rattle.wire_reader.proofs.Turning.{silent, refused, in_part, front_then}
use Rattle.wire_reader.proofs.Written.{up_to_more}
use Rattle.wire_reader.proofs.serving.answer_next.Goals as goal

pub returns-in-Err-clause-turns : goal.returns-in-Err-clause-turns
returns-in-Err-clause-turns g c = silent _ _ _ _ _ _ _ _ _ _
    (inl (record { same_desk = refl; nothing = refl })) c.in-Err.ensures.err

pub returns-in-Ok-Ok-End-clause-turns : goal.returns-in-Ok-Ok-End-clause-turns
returns-in-Ok-Ok-End-clause-turns g c =
    let over = rw (c.in-Ok-Ok-End.is, c.in-Ok-Ok-End.field-0-is, c.in-Ok-Ok-End.field-0-0-is) at
    c.take_line.ensures.next in
    silent _ _ _ _ _ _ _ _ _ _ (over, record { same_desk = refl; nothing = refl }) c.in-Ok-Ok-End.ensures.writes

pub returns-in-Ok-Err-Read-clause-turns : goal.returns-in-Ok-Err-Read-clause-turns
returns-in-Ok-Err-Read-clause-turns g c = silent _ _ _ _ _ _ _ _ _ _
    (record { same_desk = refl; nothing = refl }) c.in-Ok-Err-Read.ensures.writes

pub returns-in_default-clause-turns : goal.returns-in_default-clause-turns
returns-in_default-clause-turns g c =
    let long = rw (c.in-Ok-Err-TooLong.is, c.in-Ok-Err-TooLong.field-0-is, c.in-Ok-Err-TooLong.field-0-0-is) at
    c.take_line.ensures.next in
    refused _ _ _ _ _ _ _ _ _ _ (inr (inl (record { long = long; same_desk = refl; refused = refl })))
    (front_then _ _ _ _ _ _ c.in-Ok-Err-TooLong.ensures.writes c.in_default.ensures.err)

pub returns-in-Ok-Err-TooLong-clause-turns : goal.returns-in-Ok-Err-TooLong-clause-turns
returns-in-Ok-Err-TooLong-clause-turns g c =
    let long = rw (c.in-Ok-Err-TooLong.is, c.in-Ok-Err-TooLong.field-0-is, c.in-Ok-Err-TooLong.field-0-0-is) at
    c.take_line.ensures.next in
    refused _ _ _ _ _ _ _ _ _ _ (record { long = long; same_desk = refl; refused = refl })
    (up_to_more _ _ _ _ _ _ _ c.in-Ok-Err-TooLong.ensures.writes c.in-Ok.ensures.ok)

pub returns-in_default-answer-clause-turns : goal.returns-in_default-answer-clause-turns
returns-in_default-answer-clause-turns g c =
    let takes = rw (c.in-Ok-Ok-Whole.is, c.in-Ok-Ok-Whole.field-0-is, c.in-Ok-Ok-Whole.field-0-0-is) at
    c.take_line.ensures.next in
    silent _ _ _ _ _ _ _ _ _ _ (
      record { line = _; others = _; takes = takes; failed = rw c.line.ensures at c.in_default-answer.ensures },
      refl,
    ) c.in-Ok-Ok-Whole.ensures.writes

pub returns-in_default-add-clause-turns : goal.returns-in_default-add-clause-turns
returns-in_default-add-clause-turns g c =
    let takes = rw (c.in-Ok-Ok-Whole.is, c.in-Ok-Ok-Whole.field-0-is, c.in-Ok-Ok-Whole.field-0-0-is) at
    c.take_line.ensures.next in
    in_part _ _ _ _
    (record {
      ahead = prepend_known (held_bytes c.take_line.new.lines)
          (g.R.Read.remaining c.take_line.new.reader.device);
      desk = (c.answer.new.self, c.answer.new.desk);
    })
    (last_line c.take_line.new.lines) (cow_slice_items c.in-Ok-answer.text) _ _ _ _
    (record { takes = takes; told = rw c.line.ensures at c.in-Ok-answer.ensures })
    (front_then _ _ _ _ _ _ c.in-Ok-Ok-Whole.ensures.writes
    (rw c.as_slice.ensures.value at c.in_default-add.ensures.err))

pub returns-clause-turns : goal.returns-clause-turns
returns-clause-turns g c =
    let takes = rw (c.in-Ok-Ok-Whole.is, c.in-Ok-Ok-Whole.field-0-is, c.in-Ok-Ok-Whole.field-0-0-is) at
    c.take_line.ensures.next in
    record {
      line = last_line c.take_line.new.lines;
      text = cow_slice_items c.in-Ok-answer.text;
      answered = record { takes = takes; told = rw c.line.ensures at c.in-Ok-answer.ensures };
      puts = up_to_more _ _ _ _ _ _ _ c.in-Ok-Ok-Whole.ensures.writes
          (rw c.as_slice.ensures.value at c.in-Ok-add.ensures.ok);
    }
