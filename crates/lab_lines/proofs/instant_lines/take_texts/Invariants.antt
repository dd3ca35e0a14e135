use Rattle.std.proofs.Common.{◌≡◌, length, map}
use Rattle.wire_lines.specs.Inner.Members.{with_front}
use Rattle.lab_lines.specs.Inner.InstantLines.{texts_in}
use Rattle.lab_lines.proofs.instant_lines.take_texts.Given as goal

abbrev pub invariant-loop-token : goal.invariant-loop-token
invariant-loop-token l = with_front (map (λ t. t.now) l.texts.items) (texts_in l.reader) ≡ texts_in l.initial.reader

abbrev pub decreases-loop-token : goal.decreases-loop-token
decreases-loop-token l = length l.reader
