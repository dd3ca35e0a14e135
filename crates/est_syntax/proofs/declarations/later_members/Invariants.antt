use Rattle.std.proofs.Common.{◌≡◌, ◌≤◌, ◌∷◌, List, length}
use Rattle.est_syntax.specs.Grammar.{later_members_onto}
use Rattle.est_syntax.specs.Inner.Machine.{Want, run, later_members}
use Rattle.est_syntax.specs.declared.parse.TheConstants.{MOST_OPEN_UNITS}
use Rattle.est_syntax.proofs.declarations.later_members.Given as goal

abbrev pub invariant-members : goal.invariant-members
invariant-members l = record {
  spelt : l.fn.cursor ≡ later_members_onto l.members.items l.cursor;
  passes : (s : List Want) → run MOST_OPEN_UNITS (later_members ∷ s) l.fn.cursor ≡ run MOST_OPEN_UNITS
      (later_members ∷ s) l.cursor;
  shorter : length l.cursor ≤ length l.fn.cursor;
}

abbrev pub decreases-members : goal.decreases-members
decreases-members l = length l.cursor
