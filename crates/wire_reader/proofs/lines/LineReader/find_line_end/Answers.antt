use Rattle.wire_reader.proofs.Places.{found, none_found}
use Rattle.std.proofs.Common.{arith}
use Rattle.wire_reader.proofs.lines.LineReader.find_line_end.Goals as goal

pub invariant_of-self-clause-no_end : goal.invariant_of-self-clause-no_end
invariant_of-self-clause-no_end c =
    let s = c.args.self.now in
    none_found s.bytes.items s.start s.scanned s.end s.places.0 s.places.1 s.no_end
    (rw c.deref.ensures.value at c.in-None.ensures)

pub invariant_of-self-in-Some : goal.invariant_of-self-in-Some
invariant_of-self-in-Some c =
    let s = c.args.self.now in
    let h = rw c.deref.ensures.value at c.in-Some.ensures in
    let cuts = found s.bytes.items s.start s.scanned s.end c.in-Some.more s.places.0 s.places.1
    (omega (arith, s.room, s.places.2)) s.no_end h.0 h.1 h.2 in
    record {
      room = s.room;
      line = s.line;
      places = (omega (arith, s.places.0), omega (arith, cuts.high), s.places.2);
      no_end = cuts.no_end;
    }

pub returns-in-Some-clause-found : goal.returns-in-Some-clause-found
returns-in-Some-clause-found c =
    let s = c.args.self.now in
    let h = rw c.deref.ensures.value at c.in-Some.ensures in
    found s.bytes.items s.start s.scanned s.end c.in-Some.more s.places.0 s.places.1
    (omega (arith, s.room, s.places.2)) s.no_end h.0 h.1 h.2
