use Rattle.std.proofs.Common.{◌≡◌, ◌≤◌, ◌⊎◌, None}
use Rattle.wire_reader.specs.Lines.{HasNoEnd}
use Rattle.wire_reader.specs.Inner.Places.{SameAhead}
use Rattle.wire_reader.specs.Readers.{held_bytes, weight}
use Rattle.wire_reader.proofs.lines.LineReader.advance.Given as goal

abbrev pub invariant-loop-at : goal.invariant-loop-at
invariant-loop-at g l = record {
  ahead : SameAhead (held_bytes l.fn.self) (g.R.Read.remaining l.fn.reader.device) (held_bytes l.self)
      (g.R.Read.remaining l.reader.device);
  weighs : weight l.reader.left l.self ≤ weight l.fn.reader.left l.fn.self;
  unread : ((l.reader ≡ l.fn.reader) × (held_bytes l.self ≡ held_bytes l.fn.self)) ⊎ HasNoEnd (held_bytes l.fn.self);
  unfailed : l.reader.faults ≡ l.fn.reader.faults;
  going : l.self.ending ≡ None;
}

abbrev pub decreases-loop-at : goal.decreases-loop-at
decreases-loop-at g l = l.reader.left
