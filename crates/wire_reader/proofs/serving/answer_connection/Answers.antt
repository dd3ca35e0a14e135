use Rattle.std.proofs.Common.{inl}
use Rattle.wire_reader.proofs.Running.{finished, cut_short, from_nothing, faulted}
use Rattle.wire_reader.proofs.serving.answer_connection.Goals as goal

pub returns-in-WriteFault-clause-serves : goal.returns-in-WriteFault-clause-serves
returns-in-WriteFault-clause-serves g c =
    inl (faulted _ _ _ _ _ _ _ _ _ _ _ c.in-Ok.ensures.empty.0 c.in-Ok-new.ensures.empty
    (rw c.in-WriteFault.is at c.answer_all.ensures.serves))

pub returns-in_default-write_out-clause-serves : goal.returns-in_default-write_out-clause-serves
returns-in_default-write_out-clause-serves g c =
    inl (from_nothing _ _ _ _ _ _ _ _ _ _ _ _ c.in-Ok.ensures.empty.0 c.in-Ok-new.ensures.empty
    (cut_short _ _ _ _ _ _ _ _ _ _ _ c.in_default-answer_all.not-WriteFault c.answer_all.ensures.serves
    c.in_default-write_out.ensures.err))

pub returns-clause-serves : goal.returns-clause-serves
returns-clause-serves g c =
    inl (from_nothing _ _ _ _ _ _ _ _ _ _ _ _ c.in-Ok.ensures.empty.0 c.in-Ok-new.ensures.empty
    (finished _ _ _ _ _ _ _ _ _ _ _ c.in_default-answer_all.not-WriteFault c.answer_all.ensures.serves
    c.in-Ok-write_out.ensures.ok))
