-- The places of the states of one number (this project's own form).
use Rattle.std.specs.Prelude.{◌≡◌, ◌≢◌, ◌<◌, ◌≤◌, ◌+◌, ℕ, Option, None, Some, List, length, slice_index_or}
use Rattle.std.specs.List.{fold}
use Rattle.std.specs.Hash.FoldHasher.{initial, write, finish}
use Rattle.state_search.specs.Table.{IsNodeAt}
use Rattle.state_search.specs.declared.found.Node.{Node}

-- the number of a state, of what it feeds to a hasher
unfoldable pub number_of : {S : Type 0} → (feed : S → List (List ℕ)) → S → ℕ
number_of feed x = finish (fold write initial (feed x))

-- the node at the place has a state of this number
pub record HasNumber {S : Type 0} (number : S → ℕ) (nodes : List (Node S)) (p k : ℕ) : Type 0 where
  pub node : Node S
  pub is : IsNodeAt nodes p node
  pub number_is : number node.state ≡ k

-- no node from the one place to before the other has a state of this number
abbrev pub NoneHas : {S : Type 0} → (number : S → ℕ) → List (Node S) → (least most k : ℕ) → Type 0
NoneHas number nodes least most k = (p : ℕ) (n : Node _) → least ≤ p → p < most → IsNodeAt nodes p n
    → number n.state ≢ k

-- of the nodes before a place, the last one that has a state of this number; or none has
abbrev pub IsLastOf : {S : Type 0} → (number : S → ℕ) → List (Node S) → (most k : ℕ) → Option ℕ → Type 0
IsLastOf number nodes most k None = NoneHas number nodes 0 most k
IsLastOf number nodes most k (Some p) =
    (p < most) × HasNumber number nodes p k × NoneHas number nodes (p + 1) most k

-- of each node, the last one before it that has a state of the same number
pub record AreBefore {S : Type 0} (number : S → ℕ) (before : List (Option ℕ)) (nodes : List (Node S)) : Type 0 where
  pub count : length before ≡ length nodes
  pub each : (p : ℕ) (n : Node S) → IsNodeAt nodes p n
      → IsLastOf number nodes p (number n.state) (slice_index_or before p None)

-- how many nodes stand up to the place, if there is one
abbrev pub count_to : Option ℕ → ℕ
count_to None = 0
count_to (Some p) = p + 1

-- the node at the place, if there is one, has a state of this number
abbrev pub HasNumberIf : {S : Type 0} → (number : S → ℕ) → List (Node S) → Option ℕ → (k : ℕ) → Type 0
HasNumberIf number nodes None k = Unit {0}
HasNumberIf number nodes (Some p) k = HasNumber number nodes p k

-- the state is looked for at the place: it has the number of the node there, and is that of none of the later nodes
pub record IsSought {S : Type 0} (number : S → ℕ) (nodes : List (Node S)) (x : S) (place : Option ℕ) : Type 0 where
  pub here : HasNumberIf number nodes place (number x)
  pub passed : (p : ℕ) (n : Node S) → count_to place ≤ p → IsNodeAt nodes p n → n.state ≢ x
