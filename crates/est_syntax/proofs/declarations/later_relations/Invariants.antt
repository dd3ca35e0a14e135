use Rattle.std.proofs.Common.{◌≡◌, ◌≤◌, ◌∷◌, List, length, map}
use Rattle.est_syntax.specs.Grammar.{later_relations_onto}
use Rattle.est_syntax.specs.Views.{relation_view}
use Rattle.est_syntax.specs.Inner.Machine.{Want, run, later_relations}
use Rattle.est_syntax.specs.declared.parse.TheConstants.{MOST_OPEN_UNITS}
use Rattle.est_syntax.proofs.declarations.later_relations.Given as goal

abbrev pub invariant-relations : goal.invariant-relations
invariant-relations l = record {
  spelt : l.fn.cursor ≡ later_relations_onto (map relation_view l.relations.items) l.cursor;
  passes : (s : List Want) → run MOST_OPEN_UNITS (later_relations ∷ s) l.fn.cursor ≡ run MOST_OPEN_UNITS
      (later_relations ∷ s) l.cursor;
  shorter : length l.cursor ≤ length l.fn.cursor;
}

abbrev pub decreases-relations : goal.decreases-relations
decreases-relations l = length l.cursor
