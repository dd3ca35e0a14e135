use Rattle.std.proofs.Common.{◌≡◌, ◌≤◌, ◌<◌, ◌∷◌, List, length, map}
use Rattle.est_text.specs.declared.token.Token.TheVariants.{Symbol}
use Rattle.est_text.specs.declared.token.Symbol.TheVariants.{CloseBracket}
use Rattle.est_syntax.specs.Views.{renaming_view}
use Rattle.est_syntax.specs.Inner.Parsing.{renamings_so_far}
use Rattle.est_syntax.specs.Inner.Machine.{Want, run, renamings, later_renamings, one}
use Rattle.est_syntax.specs.declared.parse.TheConstants.{MOST_OPEN_UNITS}
use Rattle.est_syntax.proofs.names.renamings.Given as goal

abbrev pub invariant-renamings : goal.invariant-renamings
invariant-renamings l = record {
  spelt : l.fn.cursor ≡ renamings_so_far (map renaming_view l.renamings.items) l.cursor;
  some : 0 < length l.renamings.items;
  passes : (s : List Want) → run MOST_OPEN_UNITS (renamings ∷ s) l.fn.cursor ≡ run MOST_OPEN_UNITS
      (later_renamings ∷ one (Symbol CloseBracket) ∷ s) l.cursor;
  shorter : length l.cursor ≤ length l.fn.cursor;
}

abbrev pub decreases-renamings : goal.decreases-renamings
decreases-renamings l = length l.cursor
