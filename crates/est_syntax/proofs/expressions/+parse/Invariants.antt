use Rattle.std.proofs.Common.{◌+◌, ◌*◌, length, map}
use Rattle.est_syntax.specs.Views.{literal_view, conjunction_view, literals_of, conjunctions_of}
use Rattle.est_syntax.proofs.TestParts.{LiteralsSoFar, ConjunctionsSoFar}
use Rattle.est_syntax.proofs.expressions.+parse.Given as goal

abbrev pub decreases-literal : goal.decreases-literal
decreases-literal l = 8 * l.room

abbrev pub decreases-later_literals : goal.decreases-later_literals
decreases-later_literals l = 8 * l.room + 1

abbrev pub decreases-conjunction : goal.decreases-conjunction
decreases-conjunction l = 8 * l.room + 2

abbrev pub decreases-later_conjunctions : goal.decreases-later_conjunctions
decreases-later_conjunctions l = 8 * l.room + 3

abbrev pub decreases-expression : goal.decreases-expression
decreases-expression l = 8 * l.room + 4

abbrev pub invariant-later_literals-literals : goal.invariant-later_literals-literals
invariant-later_literals-literals l =
    LiteralsSoFar l.room (literals_of (map literal_view l.literals.items)) l.fn.cursor l.cursor

abbrev pub decreases-later_literals-literals : goal.decreases-later_literals-literals
decreases-later_literals-literals l = length l.cursor

abbrev pub invariant-later_conjunctions-conjunctions : goal.invariant-later_conjunctions-conjunctions
invariant-later_conjunctions-conjunctions l =
    ConjunctionsSoFar l.room (conjunctions_of (map conjunction_view l.conjunctions.items)) l.fn.cursor l.cursor

abbrev pub decreases-later_conjunctions-conjunctions : goal.decreases-later_conjunctions-conjunctions
decreases-later_conjunctions-conjunctions l = length l.cursor
