-- What is found stays found.
use Rattle.std.proofs.Common.{◌∙◌, ℕ, List, ◌++◌, arith}
use Rattle.std.proofs.Common.{Option}
use Rattle.std.proofs.lemmas.List.{get_or_append_left, length-append}
use Rattle.std.proofs.lemmas.List.Elements.{All-weaker, Contains-append_left}
use Rattle.state_search.specs.Table.{IsRow, HasRow, IsDone, IsReachedByRow}
use Rattle.state_search.specs.declared.found.Node.{Node}
use Rattle.state_search.specs.declared.found.Row.{Row}
use Rattle.state_search.specs.declared.transition_system.Step.{Step}
use Rattle.state_search.proofs.Nodes.{is_stays, leads_stays}

module _ {S L : Type 0} where
  pub row_stays : (does : S → L → Option S → Type 0) (nodes more : List (Node S)) (r : Row L) → IsRow does nodes r
      → IsRow does (nodes ++ more) r
  row_stays does nodes more r h = record {
    before = h.before;
    from = is_stays nodes more r.from h.before h.from;
    after = h.after;
    leads = leads_stays nodes more _ r.next h.after h.leads;
    step = h.step;
  }

  pub has_stays : (nodes more : List (Node S)) (rows extra : List (Row L)) (p : ℕ) (n : Node S) (s : Step S L)
      → HasRow nodes rows p n s → HasRow (nodes ++ more) (rows ++ extra) p n s
  has_stays nodes more rows extra p n s h = record {
    row = h.row;
    listed = Contains-append_left rows extra h.row h.listed;
    from = h.from;
    label = h.label;
    leads = leads_stays nodes more _ h.row.next s.next h.leads;
  }

  pub done_stays : (covers : S → List (Step S L) → Type 0) (nodes more : List (Node S)) (rows extra : List (Row L))
      (p : ℕ) (n : Node S) → IsDone covers nodes rows p n → IsDone covers (nodes ++ more) (rows ++ extra) p n
  done_stays covers nodes more rows extra p n h = record {
    steps = h.steps;
    all_of = h.all_of;
    listed = All-weaker (HasRow nodes rows p n) (HasRow (nodes ++ more) (rows ++ extra) p n)
        (λ s. has_stays nodes more rows extra p n s) h.steps h.listed;
  }

  pub came_stays : (nodes more : List (Node S)) (rows extra : List (Row L)) (k : ℕ) (n : Node S)
      → IsReachedByRow nodes rows k n
      → IsReachedByRow (nodes ++ more) (rows ++ extra) k n
  came_stays nodes more rows extra k n h = record {
    row = h.row;
    within = let w = h.within in omega (arith, length-append rows extra);
    by = λ d. get_or_append_left rows extra d n.by h.within ∙ h.by d;
    to = h.to;
    earlier = h.earlier;
    before = h.before;
    from = is_stays nodes more h.row.from h.before h.from;
    depth = h.depth;
  }
