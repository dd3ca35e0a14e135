use Rattle.std.proofs.Common.{rules, sym, ◌∙◌}
use Rattle.est_micro.proofs.FreshCells.{open_in_first, open_undecided}
use Rattle.est_micro.proofs.learning.tell_cell.Goals as goal

pub tell_open-requires : goal.tell_open-requires
tell_open-requires g c = open_in_first _ _ _ (search rules) c.requires.within c.requires.fresh

pub tell_open-requires-else-is_decided : goal.tell_open-requires-else-is_decided
tell_open-requires-else-is_decided g c =
    open_undecided _ _ c.requires.within (sym c.if-is_decided.false ∙ c.is_decided.ensures)
