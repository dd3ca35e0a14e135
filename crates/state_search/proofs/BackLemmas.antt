-- The way back to the first node.
use Rattle.std.proofs.Common.{◌≡◌, ◌∙◌, ℕ, ◌<◌, List, [], ◌∷◌, length, get_or, sym, refl, ap, subst, arith}
use Rattle.std.proofs.Common.{Option, Some, None}
use Rattle.std.proofs.lemmas.List.{get_or_default}
use Rattle.std.proofs.lemmas.List.Elements.{All-get_or}
use Rattle.state_search.specs.Inner.Back.{GoneBack}
use Rattle.state_search.specs.Table.{IsNodeAt, HasStateAt, Leads, nowhere, there, IsRow, IsReachedByRow, IsTree}
use Rattle.state_search.specs.Words.{LedTo, Path}
use Rattle.state_search.specs.declared.found.Node.{Node}
use Rattle.state_search.specs.declared.found.Row.{Row}
use Rattle.state_search.proofs.Nodes.{is_one}

module _ {S L : Type 0} (is_state : S → Type 0) (does : S → L → Option S → Type 0) (apart : L → L → Type 0) where
  -- where a row leads that leads to a place
  pub leads_there : (nodes : List (Node S)) (most p : ℕ) (n : Node S) (place : Option ℕ) (after : Option S) → Leads
      nodes most place after
      → place ≡ Some p → IsNodeAt nodes p n → after ≡ Some n.state
  leads_there nodes most p n place after nowhere e i = absurd (none_is e) where
    none_is : None ≡ Some p → ⊥
    none_is h = cc
  leads_there nodes most p n place after (there q m is few) e i =
      ap (λ (o : Node S). Some o.state) (is_one nodes p m n (subst (λ (k : ℕ). IsNodeAt nodes k m) (same q e) is) i)
    where
      same : (q : ℕ) → Some q ≡ Some p → q ≡ p
      same q h = cc

  -- the row itself
  pub at_row : (nodes : List (Node S)) (rows : List (Row L)) (at : ℕ) (row : Row L) → IsTree is_state does apart nodes
      rows
      → at < length rows → row ≡ get_or rows at row → (r : Row L) → GoneBack does nodes (get_or rows at r) row.from
      (row.label ∷ [])
  at_row nodes rows at row tree w e r =
      subst (λ (a : Row L). GoneBack does nodes a row.from (row.label ∷ [])) (e ∙ get_or_default rows at row r w)
      (let is : IsRow does nodes row = subst (λ (a : Row L). IsRow does nodes a) (sym e)
      (All-get_or (IsRow does nodes) rows at row w tree.sound) in
      record {
        before = [];
        split = refl;
        node = is.before;
        from = is.from;
        here = is.before;
        at = is.from;
        path = refl;
        steps = omega arith;
      })

  -- one node further back
  pub one_back : (nodes : List (Node S)) (rows : List (Row L)) (r : Row L) (place : ℕ) (word : List L) (node : Node S)
      (row : Row L)
      → IsTree is_state does apart nodes rows → 0 < place → GoneBack does nodes r place word
      → node ≡ get_or nodes place node → row ≡ get_or rows node.by row → GoneBack does nodes r row.from
      (row.label ∷ word)
  one_back nodes rows r place word node row tree after gone at by =
      subst (λ (a : Row L). GoneBack does nodes r a.from (a.label ∷ word)) (sym same) (record {
        before = came.row.label ∷ gone.before;
        split = ap (λ (w : List L). came.row.label ∷ w) gone.split;
        node = gone.node;
        from = gone.from;
        here = came.before;
        at = came.from;
        path = (gone.here.state, step, gone.path);
        steps = let d = came.depth in let s = gone.steps in omega arith;
      }) where
        came : IsReachedByRow nodes rows place gone.here
        came = tree.came place gone.here after gone.at

        is_here : node ≡ gone.here
        is_here = at ∙ gone.at.is node

        same : row ≡ came.row
        same = by ∙ (rw is_here (came.by row))

        is_row : IsRow does nodes came.row
        is_row = subst (λ (a : Row L). IsRow does nodes a) (came.by row)
            (All-get_or (IsRow does nodes) rows gone.here.by row came.within tree.sound)

        step : does came.before.state came.row.label (Some gone.here.state)
        step = subst (λ (o : Node S). does o.state came.row.label (Some gone.here.state))
            (is_one nodes came.row.from is_row.before came.before is_row.from came.from)
            (subst (λ (x : Option S). does is_row.before.state came.row.label x)
            (leads_there nodes _ place gone.here came.row.next is_row.after is_row.leads came.to gone.at) is_row.step)

  pub led_by : (nodes : List (Node S)) (rows : List (Row L)) (r : Row L) (place : ℕ) (word : List L) (node : Node S)
      → IsTree is_state does apart nodes rows → 0 < place → GoneBack does nodes r place word
      → node ≡ get_or nodes place node → node.by < length rows
  led_by nodes rows r place word node tree after gone at =
      let same : node ≡ gone.here = at ∙ gone.at.is node in
      rw same (tree.came place gone.here after gone.at).within

  pub goes_back : (nodes : List (Node S)) (rows : List (Row L)) (r : Row L) (place : ℕ) (word : List L) (node : Node S)
      (row : Row L)
      → IsTree is_state does apart nodes rows → 0 < place → GoneBack does nodes r place word
      → node ≡ get_or nodes place node → row ≡ get_or rows node.by row → row.from < place
  goes_back nodes rows r place word node row tree after gone at by =
      let same : node ≡ gone.here = at ∙ gone.at.is node in
      let came = tree.came place gone.here after gone.at in
      let one : row ≡ came.row = by ∙ rw same (came.by row) in
      rw one came.earlier

  -- at the first node
  pub all_back : (nodes : List (Node S)) (rows : List (Row L)) (r : Row L) (word : List L) (start : S)
      → IsTree is_state does apart nodes rows → GoneBack does nodes r 0 word → HasStateAt nodes 0 start
      → LedTo does start nodes
      r word
  all_back nodes rows r word start tree gone begin = record {
    before = gone.before;
    split = gone.split;
    node = gone.node;
    from = gone.from;
    path = subst (λ (x : S). Path does x gone.before gone.node.state)
        (ap (λ (n : Node S). n.state) (is_one nodes 0 gone.here begin.node gone.at begin.is) ∙ begin.state) gone.path;
    shortest =
        let none : gone.here.depth ≡ 0 = ap (λ (n : Node S). n.depth)
        (is_one nodes 0 gone.here tree.first gone.at tree.begins) ∙ tree.none in
        let s = gone.steps in omega arith;
  }
