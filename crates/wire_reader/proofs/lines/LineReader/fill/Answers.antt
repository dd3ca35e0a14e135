use Rattle.std.proofs.Common.{arith, ◌∙◌}
use Rattle.wire_reader.proofs.Places.{added_none, added_some, no_end_kept}
use Rattle.wire_reader.proofs.lines.LineReader.fill.Goals as goal

pub invariant_of-self : goal.invariant_of-self
invariant_of-self g c =
    let s = c.make_room.new.self in
    record {
      room = c.in_default.ensures.len ∙ s.room;
      line = s.line;
      places = s.places;
      no_end = no_end_kept s.bytes.items c.read_from.new.bytes.items s.start s.scanned s.end s.places.0 s.places.1
          c.in_default.ensures.front s.no_end;
    }

pub returns-in_default-clause-adds : goal.returns-in_default-clause-adds
returns-in_default-clause-adds g c =
    let s = c.make_room.new.self in
    added_none s.bytes.items c.read_from.new.bytes.items _ s.start s.end _ _
    (omega (arith, s.places.0, s.places.1)) c.make_room.ensures.held c.in_default.ensures.front
    c.in_default.ensures.bytes

pub invariant_of-self-2 : goal.invariant_of-self-2
invariant_of-self-2 g c =
    let s = c.make_room.new.self in
    record {
      room = c.in-Some.ensures.len ∙ s.room;
      line = s.line;
      places = (
        s.places.0,
        omega (arith, s.places.1),
        omega (arith, c.in-Some.ensures.bound, c.in-Some.ensures.len, s.room),
      );
      no_end = no_end_kept s.bytes.items c.read_from.new.bytes.items s.start s.scanned s.end s.places.0 s.places.1
          c.in-Some.ensures.front s.no_end;
    }

pub returns-clause-adds : goal.returns-clause-adds
returns-clause-adds g c =
    let s = c.make_room.new.self in
    added_some s.bytes.items c.read_from.new.bytes.items _ s.start s.end c.in-Some.count _ _
    (omega (arith, s.places.0, s.places.1))
    (omega (arith, c.in-Some.ensures.len, s.room, c.make_room.ensures.room)) c.make_room.ensures.held
    c.in-Some.ensures.front c.in-Some.ensures.bytes
