use Rattle.std.proofs.Common.{◌≡◌, ◌<◌, ◌+◌, length, take}
use Rattle.state_search.specs.Inner.Places.{IsPlaced}
use Rattle.state_search.specs.Inner.Searching.{IsExpanding}
use Rattle.state_search.specs.Table.{HasStateAt}
use Rattle.state_search.proofs.search.expand.Given as goal

abbrev pub invariant-loop-step : goal.invariant-loop-step
invariant-loop-step g l = record {
  places : IsPlaced g.M.State.Hash.hash_input l.places l.found.nodes.items;
  first : (x : _) → HasStateAt l.fn.found.nodes.items 0 x → HasStateAt l.found.nodes.items 0 x;
  done : l.found.done ≡ l.from;
  within : l.from < length l.found.nodes.items;
  count : length l.found.rows.items ≡ length l.fn.found.rows.items + l.step-index;
  expanding : IsExpanding (g.M.TransitionSystem.is_state l.system) (g.M.TransitionSystem.does l.system)
      (g.M.TransitionSystem.covers l.system)
      (g.M.TransitionSystem.apart l.system) l.found.nodes.items l.found.rows.items l.from l.node
      (take l.step-index l.step-items);
}
