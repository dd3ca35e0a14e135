use Rattle.std.proofs.Common.{◌≤◌, length}
use Rattle.state_search.specs.Inner.Numbers.{IsSought, count_to, number_of}
use Rattle.state_search.proofs.places.find.Given as goal

abbrev pub invariant-loop-place : goal.invariant-loop-place
invariant-loop-place g l = record {
  within : count_to l.place ≤ length l.nodes;
  sought : IsSought (number_of g.S.Hash.hash_input) l.nodes l.state l.place;
}

abbrev pub decreases-loop-place : goal.decreases-loop-place
decreases-loop-place g l = count_to l.place
