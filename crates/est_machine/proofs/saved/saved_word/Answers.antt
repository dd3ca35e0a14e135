use Rattle.std.proofs.Common.{arith}
use Rattle.est_kernel.proofs.Masks.{bits_zero}
use Rattle.est_machine.proofs.saved.saved_word.Goals as goal

pub returns-in-Fresh : goal.returns-in-Fresh
returns-in-Fresh c = record {
  digest_byte = λ l. absurd (omega (arith, l, c.if-place-lt32.false));
  kind = λ e. absurd (omega (arith, e, c.if-place-eq32.false));
  pauses = λ k e i l. rw c.in-Fresh.is (bits_zero i);
}

pub returns-in-Done : goal.returns-in-Done
returns-in-Done c = record {
  digest_byte = λ l. absurd (omega (arith, l, c.if-place-lt32.false));
  kind = λ e. absurd (omega (arith, e, c.if-place-eq32.false));
  pauses = λ k e i l. rw c.in-Done.is (bits_zero i);
}
