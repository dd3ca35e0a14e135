use Rattle.std.proofs.Common.{◌-◌, ◌+◌}
use Rattle.state_search.specs.Inner.Places.{IsPlaced}
use Rattle.state_search.specs.Inner.Searching.{IsSearching}
use Rattle.state_search.specs.Table.{HasStateAt}
use Rattle.state_search.proofs.search.search.Given as goal

abbrev pub invariant-loop-found : goal.invariant-loop-found
invariant-loop-found g l = record {
  fits : g.M.TransitionSystem.fits l.system l.engine;
  places : IsPlaced g.M.State.Hash.hash_input l.places l.found.nodes.items;
  first : HasStateAt l.found.nodes.items 0 l.fn.start;
  searching : IsSearching (g.M.TransitionSystem.is_state l.system) (g.M.TransitionSystem.does l.system)
      (g.M.TransitionSystem.covers l.system)
      (g.M.TransitionSystem.apart l.system) l.found.nodes.items l.found.rows.items l.found.done;
}

abbrev pub decreases-loop-found : goal.decreases-loop-found
decreases-loop-found g l = l.limits.states + 1 - l.found.done
