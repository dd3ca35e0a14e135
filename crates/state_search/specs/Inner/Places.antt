-- Which place a state has among the nodes of a search (this project's own form).
use Rattle.std.specs.Prelude.{◌≡◌, ◌≢◌, ℕ, nat_eq, List, [], ◌∷◌, ◌++◌, length}
use Rattle.std.specs.List.{All}
use Rattle.std.specs.HashMap.{get}
use Rattle.state_search.specs.Inner.Numbers.{AreBefore, IsLastOf, number_of}
use Rattle.state_search.specs.Table.{HasStateAt}
use Rattle.state_search.specs.declared.found.Node.{Node}
use Rattle.state_search.specs.declared.places.Places.{Places}

-- by these places the node of each state is found
pub record IsPlaced {S : Type 0} (feed : S → List (List ℕ)) (places : Places) (nodes : List (Node S)) : Type 0 where
  pub last : (k : ℕ) → IsLastOf (number_of feed) nodes (length nodes) k (get nat_eq places.last k)
  pub before : AreBefore (number_of feed) places.before.items nodes

-- the state of the node has this place: it had it, and nothing changes; or no node had its state, and this one comes at
-- the end
pub data Puts {S : Type 0} (old : List (Node S)) (n : Node S) (place : ℕ) (new : List (Node S)) : Type 0 where
  had : HasStateAt old place n.state → new ≡ old → Puts old n place new
  comes : All (λ m. m.state ≢ n.state) old → place ≡ length old → new ≡ old ++ n ∷ [] → Puts old n place new
