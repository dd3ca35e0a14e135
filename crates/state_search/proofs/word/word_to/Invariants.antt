use Rattle.std.proofs.Common.{◌<◌, length, reverse, slice_index_or}
use Rattle.state_search.specs.Inner.Back.{GoneBack}
use Rattle.state_search.specs.declared.found.Row.{Row}
use Rattle.state_search.proofs.word.word_to.Given as goal

abbrev pub invariant-loop-place : goal.invariant-loop-place
invariant-loop-place g l = record {
  within : l.place < length l.found.nodes.items;
  gone : (r : Row _) → GoneBack (g.M.TransitionSystem.does l.system) l.found.nodes.items
      (slice_index_or l.found.rows.items l.fn.at r) l.place (reverse l.back.items);
}

abbrev pub decreases-loop-place : goal.decreases-loop-place
decreases-loop-place g l = l.place
