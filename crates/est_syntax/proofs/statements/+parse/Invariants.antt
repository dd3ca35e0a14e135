use Rattle.std.proofs.Common.{◌+◌, ◌*◌, length, map}
use Rattle.est_syntax.specs.Views.{unit_view, sequence_view, units_of, sequences_of}
use Rattle.est_syntax.proofs.Parts.{UnitsSoFar, SequencesSoFar}
use Rattle.est_syntax.proofs.statements.+parse.Given as goal

abbrev pub decreases-unit : goal.decreases-unit
decreases-unit l = 8 * l.room

abbrev pub decreases-later_units : goal.decreases-later_units
decreases-later_units l = 8 * l.room + 1

abbrev pub decreases-sequence : goal.decreases-sequence
decreases-sequence l = 8 * l.room + 2

abbrev pub decreases-later_sequences : goal.decreases-later_sequences
decreases-later_sequences l = 8 * l.room + 3

abbrev pub decreases-statement : goal.decreases-statement
decreases-statement l = 8 * l.room + 4

abbrev pub decreases-branches : goal.decreases-branches
decreases-branches l = 8 * l.room + 5

abbrev pub decreases-tested : goal.decreases-tested
decreases-tested l = 8 * l.room + 6

abbrev pub decreases-framed : goal.decreases-framed
decreases-framed l = 8 * l.room + 6

abbrev pub invariant-later_units-units : goal.invariant-later_units-units
invariant-later_units-units l = UnitsSoFar l.room l.ends (units_of (map unit_view l.units.items)) l.fn.cursor l.cursor

abbrev pub decreases-later_units-units : goal.decreases-later_units-units
decreases-later_units-units l = length l.cursor

abbrev pub invariant-later_sequences-sequences : goal.invariant-later_sequences-sequences
invariant-later_sequences-sequences l =
    SequencesSoFar l.room l.ends (sequences_of (map sequence_view l.sequences.items)) l.fn.cursor l.cursor

abbrev pub decreases-later_sequences-sequences : goal.decreases-later_sequences-sequences
decreases-later_sequences-sequences l = length l.cursor
