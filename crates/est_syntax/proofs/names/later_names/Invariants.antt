use Rattle.std.proofs.Common.{◌≡◌, ◌≤◌, ◌∷◌, List, length}
use Rattle.est_syntax.specs.Grammar.{later_names_onto}
use Rattle.est_syntax.specs.Inner.Machine.{Want, run, later_names}
use Rattle.est_syntax.specs.declared.parse.TheConstants.{MOST_OPEN_UNITS}
use Rattle.est_syntax.proofs.names.later_names.Given as goal

abbrev pub invariant-names : goal.invariant-names
invariant-names l = record {
  spelt : l.fn.cursor ≡ later_names_onto l.names.items l.cursor;
  passes : (s : List Want) → run MOST_OPEN_UNITS (later_names ∷ s) l.fn.cursor
      ≡ run MOST_OPEN_UNITS (later_names ∷ s) l.cursor;
  shorter : length l.cursor ≤ length l.fn.cursor;
}

abbrev pub decreases-names : goal.decreases-names
decreases-names l = length l.cursor
