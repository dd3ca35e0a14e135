-- The way to each node.
use Rattle.std.proofs.Common.{◌≡◌, ◌∙◌, ℕ, zero, suc, ◌<◌, List, [], ◌∷◌, ◌++◌, Option}
use Rattle.std.proofs.Common.{Some, sym, refl, ap, subst}
use Rattle.std.proofs.Common.{arith, inl, inr}
use Rattle.std.proofs.lemmas.Bool.{cases_eq}
use Rattle.std.proofs.lemmas.List.Elements.{All-get_or}
use Rattle.state_search.specs.Table.{IsNodeAt, HasStateAt, IsRow, IsReachedByRow, IsTree}
use Rattle.state_search.specs.Words.{Path}
use Rattle.state_search.specs.declared.found.Node.{Node}
use Rattle.state_search.specs.declared.found.Row.{Row}
use Rattle.state_search.proofs.BackLemmas.{leads_there}
use Rattle.state_search.proofs.Nodes.{is_one}

module _ {S L : Type 0} (does : S → L → Option S → Type 0) where
  path_on : (x : S) (ls : List L) (y : S) (l : L) (z : S) → Path does x ls y → does y l (Some z) → Path does x
      (ls ++ l ∷ []) z
  path_on x [] y l z path step = (z, subst (λ (w : S). does w l (Some z)) (sym path) step, refl)
  path_on x (m ∷ ls) y l z path step = (path.0, path.1, path_on path.0 ls y l z path.2 step)

  -- steps that lead to the state
  pub record Way (start x : S) : Type 0 where
    pub word : List L
    pub path : Path does start word x

module _ {S L : Type 0} (is_state : S → Type 0) (does : S → L → Option S → Type 0) (apart : L → L → Type 0) (start : S)
    (nodes : List (Node S)) (rows : List (Row L)) (tree : IsTree is_state does apart nodes rows)
    (begin : HasStateAt nodes 0 start) where
  way_upto : (b k : ℕ) (n : Node S) → k < b → IsNodeAt nodes k n → Way does start n.state
  way_upto zero k n l here = absurd (omega arith)
  way_upto (suc b) k n l here = elim (cases_eq k 0) [
    | inl z ↦
        let one : n ≡ begin.node = is_one nodes 0 n begin.node (rw z at here) begin.is in
        record { word = []; path = sym (ap (λ (o : Node S). o.state) one ∙ begin.state) }
    | inr d ↦ by (λ j o w i. way_upto b j o w i) (tree.came k n (omega arith) here)
  ] where
    by : ((j : ℕ) (o : Node S) → j < b → IsNodeAt nodes j o → Way does start o.state)
        → IsReachedByRow nodes rows k n → Way does start
        n.state
    by before came =
        let row : IsRow does nodes came.row = subst (λ (a : Row L). IsRow does nodes a)
        (came.by came.row) (All-get_or (IsRow does nodes) rows n.by came.row came.within tree.sound) in
        let to : row.after ≡ Some n.state = leads_there is_state does apart nodes _ k n came.row.next row.after
        row.leads came.to here in
        let earlier = came.earlier in
        let old = before came.row.from row.before (omega arith) row.from in
        record {
          word = old.word ++ came.row.label ∷ [];
          path = path_on does start old.word row.before.state came.row.label n.state old.path (rw to at row.step);
        }

  -- each node is reached
  pub way_to : (k : ℕ) (n : Node S) → IsNodeAt nodes k n → Way does start n.state
  way_to k n here = way_upto (suc k) k n (omega arith) here
