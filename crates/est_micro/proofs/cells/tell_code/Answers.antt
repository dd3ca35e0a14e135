use Rattle.std.proofs.Common.{rules, sym, ◌∙◌}
use Rattle.est_micro.proofs.FreshCells.{open_in_first, open_undecided}
use Rattle.est_micro.proofs.cells.tell_code.Goals as goal

pub tell_open_code-requires-clause-open : goal.tell_open_code-requires-clause-open
tell_open_code-requires-clause-open g c = open_in_first _ _ _ (search rules) c.requires.within c.requires.fresh

pub tell_open_code-requires-else-is_decided-clause-open : goal.tell_open_code-requires-else-is_decided-clause-open
tell_open_code-requires-else-is_decided-clause-open g c =
    open_undecided _ _ c.requires.within (sym c.if-is_decided.false ∙ c.is_decided.ensures)
