use Rattle.std.proofs.Common.{◌≡◌, ◌≤◌, ◌∷◌, List, length, map}
use Rattle.est_syntax.specs.Grammar.{declarations_onto}
use Rattle.est_syntax.specs.Views.{declaration_view}
use Rattle.est_syntax.specs.Inner.Machine.{Want, run}
use Rattle.est_syntax.specs.Inner.Machine.{declarations as declarations_want}
use Rattle.est_syntax.specs.declared.parse.TheConstants.{MOST_OPEN_UNITS}
use Rattle.est_syntax.proofs.declarations.declarations.Given as goal

abbrev pub invariant-declarations : goal.invariant-declarations
invariant-declarations l = record {
  spelt : l.fn.cursor ≡ declarations_onto (map declaration_view l.declarations.items) l.cursor;
  passes : (s : List Want) → run MOST_OPEN_UNITS (declarations_want ∷ s) l.fn.cursor ≡ run MOST_OPEN_UNITS
      (declarations_want ∷ s) l.cursor;
  shorter : length l.cursor ≤ length l.fn.cursor;
}

abbrev pub decreases-declarations : goal.decreases-declarations
decreases-declarations l = length l.cursor
