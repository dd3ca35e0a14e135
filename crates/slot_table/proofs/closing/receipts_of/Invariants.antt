use Rattle.std.proofs.Common.{vec_len}
use Rattle.slot_table.proofs.Handing.{AreHanded}
use Rattle.slot_table.proofs.closing.receipts_of.Given as goal

abbrev pub invariant-loop-seat : goal.invariant-loop-seat
invariant-loop-seat g l = AreHanded l.fn.seats.items l.seats.items l.receipts

abbrev pub decreases-loop-seat : goal.decreases-loop-seat
decreases-loop-seat g l = vec_len l.seats
