-- What a search has found of a system, a node at a time (this project's own form).
use Rattle.std.specs.Prelude.{◌≡◌, ◌≢◌, ℕ, ◌<◌, ◌≤◌, ◌+◌, Bool, true, ◌⊎◌, Option, None, Some, List, length}
use Rattle.std.specs.Prelude.{slice_index_or}
use Rattle.std.specs.List.{All, AllPairs, Contains}
use Rattle.state_search.specs.declared.found.Node.{Node}
use Rattle.state_search.specs.declared.found.Row.{Row}
use Rattle.state_search.specs.declared.transition_system.Step.{Step}

-- what compares alike is one
abbrev pub IsExact : {S : Type 0} → (S → S → Bool) → Type 0
IsExact {S} eq = (x y : S) → eq x y ≡ true → x ≡ y

-- the node at the place is this one
pub record IsNodeAt {S : Type 0} (nodes : List (Node S)) (p : ℕ) (n : Node S) : Type 0 where
  pub within : p < length nodes
  pub is : (d : Node S) → slice_index_or nodes p d ≡ n

-- the node at the place is of this state
pub record HasStateAt {S : Type 0} (nodes : List (Node S)) (p : ℕ) (x : S) : Type 0 where
  pub node : Node S
  pub is : IsNodeAt nodes p node
  pub state : node.state ≡ x

-- where a step leads: to no state and no place, or to the state of the node at the place, in so many steps at most
pub data Leads {S : Type 0} (nodes : List (Node S)) (most : ℕ) : (place : Option ℕ) → (state : Option S) → Type 0 where
  nowhere : Leads nodes most None None
  there : (p : ℕ) (n : Node S) → IsNodeAt nodes p n → n.depth ≤ most → Leads nodes most (Some p) (Some n.state)

module _ {S L : Type 0} (does : S → L → Option S → Type 0) where
  -- the row is a step of the system
  pub record IsRow (nodes : List (Node S)) (r : Row L) : Type 0 where
    pub before : Node S
    pub from : IsNodeAt nodes r.from before
    pub after : Option S
    pub leads : Leads nodes (before.depth + 1) r.next after
    pub step : does before.state r.label after

-- some row is this step, from the node at the place
pub record HasRow {S L : Type 0} (nodes : List (Node S)) (rows : List (Row L)) (p : ℕ) (n : Node S) (s : Step S L) :
    Type 0 where
  pub row : Row L
  pub listed : Contains rows row
  pub from : row.from ≡ p
  pub label : row.label ≡ s.label
  pub leads : Leads nodes (n.depth + 1) row.next s.next

-- each step of the node at the place is a row
pub record IsDone {S L : Type 0} (covers : S → List (Step S L) → Type 0) (nodes : List (Node S)) (rows : List (Row L))
    (p : ℕ) (n : Node S) : Type 0 where
  pub steps : List (Step S L)
  pub all_of : covers n.state steps
  pub listed : All (HasRow nodes rows p n) steps

-- the node at the place k was first reached by an earlier one's row
pub record IsReachedByRow {S L : Type 0} (nodes : List (Node S)) (rows : List (Row L)) (k : ℕ) (n : Node S) : Type 0
  where
    pub row : Row L
    pub within : n.by < length rows
    pub by : (d : Row L) → slice_index_or rows n.by d ≡ row
    pub to : row.next ≡ Some k
    pub earlier : row.from < k
    pub before : Node S
    pub from : IsNodeAt nodes row.from before
    pub depth : n.depth ≡ before.depth + 1

-- a tree of distinct nodes, each after those that took fewer steps, and their rows
pub record IsTree {S L : Type 0} (is_state : S → Type 0) (does : S → L → Option S → Type 0) (apart : L → L → Type 0)
    (nodes : List (Node S)) (rows : List (Row L)) : Type 0 where
  pub first : Node S
  pub begins : IsNodeAt nodes 0 first
  pub none : first.depth ≡ 0
  pub shallow : (k : ℕ) (n : Node S) → IsNodeAt nodes k n → n.depth ≤ k
  pub states : All (λ n. is_state n.state) nodes
  pub distinct : AllPairs (λ m n. m.state ≢ n.state) nodes
  pub ordered : AllPairs (λ m n. m.depth ≤ n.depth) nodes
  pub came : (k : ℕ) (n : Node S) → 0 < k → IsNodeAt nodes k n → IsReachedByRow nodes rows k n
  pub sound : All (IsRow does nodes) rows
  pub in_turn : AllPairs (λ a b. a.from ≤ b.from) rows
  pub differ : AllPairs (λ a b. a.from ≡ b.from → apart a.label b.label) rows

-- where a search stands: a tree, in which those before a place have all their steps
pub record IsFound {S L : Type 0} (is_state : S → Type 0) (does : S → L → Option S → Type 0)
    (covers : S → List (Step S L) → Type 0) (apart : L → L → Type 0)
    (nodes : List (Node S)) (rows : List (Row L)) (done : ℕ) : Type 0 where
  pub tree : IsTree is_state does apart nodes rows
  pub turn : All (λ r. r.from ≤ done) rows
  pub all : (k : ℕ) (n : Node S) → k < done → IsNodeAt nodes k n → IsDone covers nodes rows k n

-- the search has ended: all states have all their steps, or there are more states or more rows than that
abbrev pub HasEnded : {S L : Type 0} → (states steps : ℕ) → List (Node S) → List (Row L) → (done : ℕ) → Type 0
HasEnded states steps nodes rows done = (length nodes ≤ done) ⊎ ((states < length nodes) ⊎ (steps < length rows))
