use Rattle.std.proofs.Common.{◌≡◌, ◌≤◌, ◌+◌, take}
use Rattle.est_text.specs.Places.{place_after}
use Rattle.est_text.specs.declared.place.Place.{Place}
use Rattle.est_text.proofs.place.place_after.Given as goal

abbrev pub invariant-loop-byte : goal.invariant-loop-byte
invariant-loop-byte l = record {
  place : (let p : Place = record { line = l.line; column = l.column } in p ≡ place_after (take l.byte-index l.text));
  line : l.line ≤ l.byte-index + 1;
  column : l.column ≤ l.byte-index + 1;
}
