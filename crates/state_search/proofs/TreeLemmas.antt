-- A tree, a row at a time.
use Rattle.std.proofs.Common.{◌≡◌, ◌≢◌, ◌∙◌, ℕ, ◌<◌, ◌≤◌, ◌+◌, inl, inr, List, [], ◌∷◌, ◌++◌, length, get_or, sym, refl}
use Rattle.std.proofs.Common.{subst, arith, take}
use Rattle.std.proofs.Common.{Option, Some, None, append-nil}
use Rattle.std.proofs.lemmas.Bool.{cases_eq}
use Rattle.std.proofs.lemmas.List.{get_or_push, length_push, get_or-take, get_or_default, take_more, length-take}
use Rattle.std.proofs.lemmas.List.Elements.{All-push, All-weaker, All-get_or, All-contains, Contains-push}
use Rattle.std.proofs.lemmas.List.Elements.{Contains-append_left}
use Rattle.std.proofs.lemmas.List.Quantifiers.{all_pairs_push}
use Rattle.std.specs.List.{All, AllPairs}
use Rattle.state_search.specs.Inner.Places.{had, comes}
use Rattle.state_search.specs.Inner.Searching.{Adds, stops, goes, HasLabel, IsExpanding, IsSearching}
use Rattle.state_search.specs.Table.{
  IsNodeAt,
  HasStateAt,
  Leads,
  nowhere,
  there,
  IsRow,
  HasRow,
  IsDone,
  IsReachedByRow,
  IsTree,
}
use Rattle.state_search.specs.declared.found.Node.{Node}
use Rattle.state_search.specs.declared.found.Row.{Row}
use Rattle.state_search.specs.declared.transition_system.Step.{Step}
use Rattle.state_search.proofs.Growth.{row_stays, has_stays, done_stays, came_stays}
use Rattle.state_search.proofs.Nodes.{is_stays, at_stays, is_last, is_one, is_old, is_cases}

module _ {S L : Type 0} (is_state : S → Type 0) (does : S → L → Option S → Type 0)
    (covers : S → List (Step S L) → Type 0)
    (apart : L → L → Type 0) where
  -- what a new row needs
  pub record MayJoin (nodes : List (Node S)) (rows : List (Row L)) (r : Row L) : Type 0 where
    pub row : IsRow does nodes r
    pub in_turn : All (λ a. a.from ≤ r.from) rows
    pub differs : All (λ a. a.from ≡ r.from → apart a.label r.label) rows

  all_before : (P : Row L → Row L → Type 0) (rows : List (Row L)) (r : Row L) → AllPairs P rows → All (λ a. P a r) rows
      → AllPairs P (rows ++ r ∷ [])
  all_before P rows r old new = all_pairs_push P rows r old (λ k d h. All-get_or (λ a. P a r) rows k d h new)

  -- one more row
  pub tree_row : (nodes : List (Node S)) (rows : List (Row L)) (r : Row L) → IsTree is_state does apart nodes rows
      → MayJoin nodes rows r → IsTree is_state does apart nodes (rows ++ r ∷ [])
  tree_row nodes rows r t j = record {
    first = t.first;
    begins = t.begins;
    none = t.none;
    shallow = t.shallow;
    states = t.states;
    distinct = t.distinct;
    ordered = t.ordered;
    came = λ k n l i. subst (λ (ns : List (Node S)). IsReachedByRow ns (rows ++ r ∷ []) k n) (append-nil nodes)
        (came_stays nodes [] rows (r ∷ []) k n (t.came k n l i));
    sound = All-push (IsRow does nodes) rows r t.sound j.row;
    in_turn = all_before (λ a b. a.from ≤ b.from) rows r t.in_turn j.in_turn;
    differ = all_before (λ a b. a.from ≡ b.from → apart a.label b.label) rows r t.differ j.differs;
  }

  -- and one more node with it
  pub record MayCome (nodes : List (Node S)) (rows : List (Row L)) (r : Row L) (m : Node S) : Type 0 where
    pub state : is_state m.state
    pub fresh : All (λ n. n.state ≢ m.state) nodes
    pub later : All (λ n. n.depth ≤ m.depth) nodes
    pub came : IsReachedByRow (nodes ++ m ∷ []) (rows ++ r ∷ []) (length nodes) m

  shallow_again : (nodes : List (Node S)) (rows : List (Row L)) (r : Row L) (m : Node S)
      → ((k : ℕ) (n : Node S) → IsNodeAt nodes k n → n.depth ≤ k) → MayCome nodes rows r m
      → (k : ℕ) (n : Node S) → IsNodeAt (nodes ++ m ∷ []) k n → n.depth ≤ k
  shallow_again nodes rows r m h c k n i = elim (is_cases nodes m k n i) [
    | inl old ↦ h k n old
    | inr new ↦
        let came = c.came in
        let lt = came.earlier in
        let old : IsNodeAt nodes came.row.from came.before = is_old nodes (m ∷ []) came.row.from came.before lt
        came.from in
        let deep = h came.row.from came.before old in
        let e = came.depth in
        rw (new.1, new.0) (omega arith)
  ]

  pub tree_node : (nodes : List (Node S)) (rows : List (Row L)) (r : Row L) (m : Node S)
      → IsTree is_state does apart nodes rows → MayJoin (nodes ++ m ∷ []) rows r → MayCome nodes rows r m
      → IsTree is_state does apart (nodes ++ m ∷ []) (rows ++ r ∷ [])
  tree_node nodes rows r m t j c = record {
    first = t.first;
    begins = is_stays nodes (m ∷ []) 0 t.first t.begins;
    none = t.none;
    shallow = shallow_again nodes rows r m t.shallow c;
    states = All-push (λ n. is_state n.state) nodes m t.states c.state;
    distinct = all_pairs_push (λ a b. a.state ≢ b.state) nodes m t.distinct
        (λ k d h. All-get_or (λ n. n.state ≢ m.state) nodes k d h c.fresh);
    ordered = all_pairs_push (λ a b. a.depth ≤ b.depth) nodes m t.ordered
        (λ k d h. All-get_or (λ n. n.depth ≤ m.depth) nodes k d h c.later);
    came = λ k n l i. elim (is_cases nodes m k n i) [
      | inl old ↦ came_stays nodes (m ∷ []) rows (r ∷ []) k n (t.came k n l old)
      | inr new ↦ rw (new.1, new.0) c.came
    ];
    sound = All-push (IsRow does (nodes ++ m ∷ [])) rows r
        (All-weaker (IsRow does nodes) (IsRow does (nodes ++ m ∷ [])) (row_stays does nodes (m ∷ [])) rows t.sound)
        j.row;
    in_turn = all_before (λ a b. a.from ≤ b.from) rows r t.in_turn j.in_turn;
    differ = all_before (λ a b. a.from ≡ b.from → apart a.label b.label) rows r t.differ j.differs;
  }

  -- what is known of a step that is added
  pub record MayAdd (n : Node S) (done : List (Step S L)) (s : Step S L) : Type 0 where
    pub step : does n.state s.label s.next
    pub state : (y : S) → s.next ≡ Some y → is_state y
    pub differs : All (λ t. apart t.label s.label) done

  -- rows that are there already are of other steps
  others_differ : (rows : List (Row L)) (at : ℕ) (done : List (Step S L)) (s : Step S L)
      → All (λ t. apart t.label s.label) done → All (λ r. r.from ≡ at → HasLabel done r.label) rows
      → All (λ r. r.from ≡ at → apart r.label s.label) rows
  others_differ rows at done s d mine =
      All-weaker (λ r. r.from ≡ at → HasLabel done r.label) (λ r. r.from ≡ at → apart r.label s.label)
      (λ r h e. of_done r.label (h e)) rows mine where
        of_done : (l : L) → HasLabel done l → apart l s.label
        of_done l c = subst (λ (k : L). apart k s.label) c.label
            (All-contains (λ t. apart t.label s.label) done c.step d c.listed)

  mine_again : (rows : List (Row L)) (at : ℕ) (done : List (Step S L)) (s : Step S L) (r : Row L) → r.label ≡ s.label
      → All (λ a. a.from ≡ at → HasLabel done a.label) rows
      → All (λ a. a.from ≡ at → HasLabel (done ++ s ∷ []) a.label) (rows ++ r ∷ [])
  mine_again rows at done s r e mine = All-push (λ a. a.from ≡ at → HasLabel (done ++ s ∷ []) a.label) rows r
      (All-weaker (λ a. a.from ≡ at → HasLabel done a.label) (λ a. a.from ≡ at → HasLabel (done ++ s ∷ []) a.label)
      (λ a h i. let old = h i in
      record { step = old.step; listed = Contains-append_left done (s ∷ []) old.step old.listed; label = old.label })
      rows mine)
      (λ i. record { step = s; listed = Contains-push done s; label = sym e })

  -- the new row is this step
  is_new : (nodes : List (Node S)) (rows : List (Row L)) (at : ℕ) (n : Node S) (s : Step S L) (next : Option ℕ)
      → Leads nodes (n.depth + 1) next s.next
      → HasRow nodes (rows ++ record { from = at; label = s.label; next = next } ∷ []) at n s
  is_new nodes rows at n s next leads = record {
    row = record { from = at; label = s.label; next = next };
    listed = Contains-push rows (record { from = at; label = s.label; next = next });
    from = refl;
    label = refl;
    leads = leads;
  }

  may_join : (nodes : List (Node S)) (rows : List (Row L)) (at : ℕ) (n : Node S) (done : List (Step S L)) (s : Step S L)
      (next : Option ℕ) → IsNodeAt nodes at n → Leads nodes (n.depth + 1) next s.next → MayAdd n done s
      → All (λ r. r.from ≤ at) rows → All (λ r. r.from ≡ at → HasLabel done r.label) rows
      → MayJoin nodes rows (record { from = at; label = s.label; next = next })
  may_join nodes rows at n done s next here leads may froms mine = record {
    row = record { before = n; from = here; after = s.next; leads = leads; step = may.step };
    in_turn = froms;
    differs = others_differ rows at done s may.differs mine;
  }

  -- a step that leads to no new state
  pub joined : (nodes : List (Node S)) (rows : List (Row L)) (at : ℕ) (n : Node S) (done : List (Step S L))
      (s : Step S L)
      (next : Option ℕ) → IsExpanding is_state does covers apart nodes rows at n done → MayAdd n done s
      → Leads nodes (n.depth + 1) next s.next
      → IsExpanding is_state does covers apart nodes (rows ++ record { from = at; label = s.label; next = next } ∷ [])
      at n
      (done ++ s ∷ [])
  joined nodes rows at n done s next h may leads = record {
    found = record {
      tree = tree_row nodes rows _ h.found.tree (may_join nodes rows at n done s next h.here leads may h.froms h.mine);
      turn = All-push (λ a. a.from ≤ at) rows r h.froms (omega arith);
      all = λ k m l i. subst (λ (ns : List (Node S)). IsDone covers ns (rows ++ r ∷ []) k m) (append-nil nodes)
          (done_stays covers nodes [] rows (r ∷ []) k m (h.found.all k m l i));
    };
    here = h.here;
    near = h.near;
    froms = All-push (λ r. r.from ≤ at) rows _ h.froms (omega arith);
    listed = All-push (HasRow nodes (rows ++ r ∷ []) at n) done s
        (All-weaker (HasRow nodes rows at n) (HasRow nodes (rows ++ r ∷ []) at n)
        (λ t e. subst (λ (ns : List (Node S)). HasRow ns (rows ++ r ∷ []) at n t) (append-nil nodes)
        (has_stays nodes [] rows (r ∷ []) at n t e)) done h.listed)
        (is_new nodes rows at n s next leads);
    mine = mine_again rows at done s _ refl h.mine;
  } where
    r : Row L
    r = record { from = at; label = s.label; next = next }

  -- a step that leads to a new state
  pub grown : (nodes : List (Node S)) (rows : List (Row L)) (at : ℕ) (n : Node S) (done : List (Step S L))
      (s : Step S L)
      (y : S) → IsExpanding is_state does covers apart nodes rows at n done → MayAdd n done s → s.next ≡ Some y
      → All (λ m. m.state ≢ y) nodes
      → IsExpanding is_state does covers apart (nodes ++ record { state = y; by = length rows; depth = n.depth + 1 } ∷
      [])
      (rows ++ record { from = at; label = s.label; next = Some (length nodes) } ∷ []) at n (done ++ s ∷ [])
  grown nodes rows at n done s y h may to fresh = record {
    found = record {
      tree = tree_node nodes rows r m h.found.tree (may_join more rows at n done s (Some (length nodes)) here leads may
          h.froms h.mine)
          (record {
            state = may.state y to;
            fresh = fresh;
            later = h.near;
            came = record {
              row = r;
              within = omega (arith, length_push rows r);
              by = λ d. get_or_push rows r d (length rows) refl;
              to = refl;
              earlier = h.here.within;
              before = n;
              from = here;
              depth = refl;
            };
          });
      turn = All-push (λ a. a.from ≤ at) rows r h.froms (omega arith);
      all = λ k o l i. done_stays covers nodes (m ∷ []) rows (r ∷ []) k o
          (h.found.all k o l (is_old nodes (m ∷ []) k o (let w = h.here.within in omega arith) i));
    };
    here = here;
    near = All-push (λ o. o.depth ≤ n.depth + 1) nodes m h.near (omega arith);
    froms = All-push (λ a. a.from ≤ at) rows r h.froms (omega arith);
    listed = All-push (HasRow more (rows ++ r ∷ []) at n) done s
        (All-weaker (HasRow nodes rows at n) (HasRow more (rows ++ r ∷ []) at n)
        (λ t e. has_stays nodes (m ∷ []) rows (r ∷ []) at n t e) done h.listed)
        (is_new more rows at n s (Some (length nodes)) leads);
    mine = mine_again rows at done s r refl h.mine;
  } where
    m : Node S
    m = record { state = y; by = length rows; depth = n.depth + 1 }

    r : Row L
    r = record { from = at; label = s.label; next = Some (length nodes) }

    more : List (Node S)
    more = nodes ++ m ∷ []

    here : IsNodeAt more at n
    here = is_stays nodes (m ∷ []) at n h.here

    leads : Leads more (n.depth + 1) (Some (length nodes)) s.next
    leads = subst (λ (x : Option S). Leads more (n.depth + 1) (Some (length nodes)) x) (sym to)
        (there (length nodes) m (is_last nodes m (length nodes) refl) (omega arith))

  old_leads : (nodes : List (Node S)) (n : Node S) (y : S) (p : ℕ) → All (λ m. m.depth ≤ n.depth + 1) nodes
      → HasStateAt nodes p
      y
      → Leads nodes (n.depth + 1) (Some p) (Some y)
  old_leads nodes n y p near a = subst (λ (x : S). Leads nodes (n.depth + 1) (Some p) (Some x)) a.state
      (there p a.node a.is (subst (λ (o : Node S). o.depth ≤ n.depth + 1) (a.is.is n) (near p n a.is.within)))

  -- any step
  pub added : (nodes : List (Node S)) (rows : List (Row L)) (at : ℕ) (n : Node S) (done : List (Step S L))
      (s : Step S L)
      (nodes' : List (Node S)) (rows' : List (Row L)) → IsExpanding is_state does covers apart nodes rows at n done
      → MayAdd n done s → Adds nodes rows at n.depth s nodes' rows'
      → IsExpanding is_state does covers apart nodes' rows' at n (done ++ s ∷ [])
  added nodes rows at n done s nodes' rows' h may (stops e f g) = rw (f, g) (joined nodes rows at n done s None h may
      (subst (λ (x : Option S). Leads nodes (n.depth + 1) None x) (sym e) nowhere))
  added nodes rows at n done s nodes' rows' h may (goes y p e (had a f) g) = rw (f, g)
      (joined nodes rows at n done s (Some p) h may
      (subst (λ (x : Option S). Leads nodes (n.depth + 1) (Some p) x) (sym e) (old_leads nodes n y p h.near a)))
  added nodes rows at n done s nodes' rows' h may (goes y p e (comes fresh i f) g) = rw (f, g, i)
      (grown nodes rows at n done s y h may e fresh)

  -- a step of a list

  -- what is known of all steps of a node
  pub record AreSteps (n : Node S) (steps : List (Step S L)) : Type 0 where
    pub sound : All (λ s. does n.state s.label s.next) steps
    pub states : All (λ s. (y : S) → s.next ≡ Some y → is_state y) steps
    pub differ : AllPairs (λ a b. apart a.label b.label) steps

  may_add : (n : Node S) (steps : List (Step S L)) (i : ℕ) (s : Step S L) → i < length steps → s ≡ get_or steps i s
      → AreSteps n steps → MayAdd n (take i steps) s
  may_add n steps i s w e h = record {
    step = subst (λ (t : Step S L). does n.state t.label t.next) (sym e)
        (All-get_or (λ t. does n.state t.label t.next) steps i s w h.sound);
    state = subst (λ (t : Step S L). (y : S) → t.next ≡ Some y → is_state y) (sym e)
        (All-get_or (λ t. (y : S) → t.next ≡ Some y → is_state y) steps i s w h.states);
    differs = λ k d l.
        let lt : k < i = omega (arith, length-take i steps) in
        subst (λ (t : Step S L). apart (get_or (take i steps) k d).label t.label)
        (get_or_default steps i d s w ∙ sym e)
        (rw (get_or-take i steps k d lt) (h.differ k i d lt w));
  }

  pub adding : (nodes : List (Node S)) (rows : List (Row L)) (at : ℕ) (n : Node S) (steps : List (Step S L)) (i : ℕ)
      (s : Step S L) (nodes' : List (Node S)) (rows' : List (Row L)) → i < length steps → s ≡ get_or steps i s
      → AreSteps n steps → IsExpanding is_state does covers apart nodes rows at n (take i steps)
      → Adds nodes rows at n.depth s nodes' rows'
      → IsExpanding is_state does covers apart nodes' rows' at n (take (i + 1) steps)
  adding nodes rows at n steps i s nodes' rows' w e may h a = rw (take_more steps i s w, ← e)
      (added nodes rows at n (take i steps) s nodes' rows' h (may_add n steps i s w e may) a)

  -- one more row
  pub adds_one : (nodes : List (Node S)) (rows : List (Row L)) (at depth : ℕ) (s : Step S L) (nodes' : List (Node S))
      (rows' : List (Row L)) → Adds nodes rows at depth s nodes' rows' → length rows' ≡ length rows + 1
  adds_one nodes rows at depth s nodes' rows' (stops e f g) = rw g (length_push rows _)
  adds_one nodes rows at depth s nodes' rows' (goes y p e q g) = rw g (length_push rows _)

  -- nodes stay
  pub adds_stay : (nodes : List (Node S)) (rows : List (Row L)) (at depth : ℕ) (s : Step S L) (nodes' : List (Node S))
      (rows' : List (Row L)) → Adds nodes rows at depth s nodes' rows' → (p : ℕ) (x : S) → HasStateAt nodes p x
      → HasStateAt nodes' p x
  adds_stay nodes rows at depth s nodes' rows' (stops e f g) p x h = rw f h
  adds_stay nodes rows at depth s nodes' rows' (goes y q e (had a f) g) p x h = rw f h
  adds_stay nodes rows at depth s nodes' rows' (goes y q e (comes i j f) g) p x h = rw f (at_stays nodes (_ ∷ []) p x h)

  -- ---- from node to node

  pub begins : (first : Node S) → is_state first.state → first.depth ≡ 0
      → IsSearching is_state does covers apart (first ∷ []) [] 0
  begins first ok none = record {
    found = record {
      tree = record {
        first = first;
        begins = record { within = omega arith; is = λ d. refl };
        none = none;
        shallow = λ k n i. let w = i.within in rw (← i.is n) (at_first k n w);
        states = λ k d w. let e : k ≡ 0 = omega arith in rw e ok;
        distinct = λ i j d l w. absurd (omega arith);
        ordered = λ i j d l w. absurd (omega arith);
        came = λ k n l i. absurd (let w = i.within in omega arith);
        sound = λ k d w. absurd (omega arith);
        in_turn = λ i j d l w. absurd (omega arith);
        differ = λ i j d l w. absurd (omega arith);
      };
      turn = λ k d w. absurd (omega arith);
      all = λ k n l i. absurd (omega arith);
    };
    froms = λ k d w. absurd (omega arith);
    near = λ n i k d w.
        let e : k ≡ 0 = omega arith in rw (e, none) (omega arith);
  } where
    at_first : (k : ℕ) (d : Node S) → k < 1 → (get_or (first ∷ []) k d).depth ≤ k
    at_first k d w = let e : k ≡ 0 = omega arith in rw (e, none) (omega arith)

  pub expands : (nodes : List (Node S)) (rows : List (Row L)) (at : ℕ) (n : Node S)
      → IsSearching is_state does covers apart nodes rows at → IsNodeAt nodes at n
      → IsExpanding is_state does covers apart nodes rows at n []
  expands nodes rows at n h here = record {
    found = h.found;
    here = here;
    near = h.near n here;
    froms = All-weaker (λ r. r.from < at) (λ r. r.from ≤ at) (λ r l. omega arith) rows h.froms;
    listed = λ k d w. absurd (omega arith);
    mine = All-weaker (λ r. r.from < at) (λ r. r.from ≡ at → HasLabel {S = S} [] r.label)
        (λ r l e. absurd (omega arith)) rows h.froms;
  }

  pub expanded : (nodes : List (Node S)) (rows : List (Row L)) (at : ℕ) (n : Node S) (steps : List (Step S L))
      → IsExpanding is_state does covers apart nodes rows at n steps → covers n.state steps
      → IsSearching is_state does covers apart nodes rows (at + 1)
  expanded nodes rows at n steps h all_of = record {
    found = record {
      tree = h.found.tree;
      turn = All-weaker (λ r. r.from ≤ at) (λ r. r.from ≤ at + 1) (λ r l. omega arith) rows h.froms;
      all = all_again;
    };
    froms = All-weaker (λ r. r.from ≤ at) (λ r. r.from < at + 1) (λ r l. omega arith) rows h.froms;
    near = λ m i. All-weaker (λ o. o.depth ≤ n.depth + 1) (λ o. o.depth ≤ m.depth + 1)
        (λ o l. let up = deeper m i in omega arith) nodes h.near;
  } where
    deeper : (m : Node S) → IsNodeAt nodes (at + 1) m → n.depth ≤ m.depth
    deeper m i = subst (λ (o : Node S). n.depth ≤ o.depth) (i.is n)
        (subst (λ (o : Node S). o.depth ≤ (get_or nodes (at + 1) n).depth) (h.here.is n)
        (h.found.tree.ordered at (at + 1) n (omega arith) i.within))

    all_again : (k : ℕ) (m : Node S) → k < at + 1 → IsNodeAt nodes k m → IsDone covers nodes rows k m
    all_again k m l i = elim (cases_eq k at) [
      | inl e ↦
          let same : m ≡ n = is_one nodes at m n (rw e at i) h.here in
          rw (e, same) (record { steps = steps; all_of = all_of; listed = h.listed })
      | inr d ↦ h.found.all k m (omega arith) i
    ]
