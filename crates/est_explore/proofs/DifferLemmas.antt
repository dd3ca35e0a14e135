-- How two modules differ, by the rows that a search of both has found.
use Rattle.std.proofs.Common.{◌≡◌, ◌≢◌, ◌∙◌, ℕ, ◌<◌, ◌≤◌, Bool, true, false, nat_eq, List, [], ◌∷◌, length}
use Rattle.std.proofs.Common.{map, get_or}
use Rattle.std.proofs.Common.{Option, Some, None, sym, refl, ap, subst, arith, inl, inr}
use Rattle.std.proofs.lemmas.Bool.{cases_lt, cases_Bool}
use Rattle.std.proofs.lemmas.List.{get_or_default, length-map}
use Rattle.std.proofs.lemmas.List.Elements.{All-get_or, All-map}
use Rattle.est_kernel.specs.Bits.{bits}
use Rattle.est_relations.proofs.Members.{nat_same}
use Rattle.est_explore.specs.Inner.Answers.{AnswersSo}
use Rattle.est_explore.specs.Inner.Pairs.{AnswersBoth, ArePositions, agree, joined}
use Rattle.est_explore.specs.Runs.{Module, IsLawful, Goes, Runs}
use Rattle.est_explore.specs.Comparisons.{IsReachedByBoth, HasMorePairs, HasMorePairTrials, PairTrial}
use Rattle.est_explore.specs.ExploredBoth.{DoesBoth, IsExploredBoth, both_fresh}
use Rattle.est_explore.specs.Same.{AnswersAt, shown_first, DifferBy}
use Rattle.est_explore.specs.Verdicts.{outputs_of}
use Rattle.est_cover.specs.declared.answered.AnsweredInputs.{AnsweredInputs}
use Rattle.est_explore.specs.declared.one_module.Answer.{Answer}
use Rattle.est_explore.specs.declared.one_module.Answer.TheVariants.{Reaction, Stuck}
use Rattle.est_explore.specs.declared.one_module.Position.{Position}
use Rattle.est_explore.specs.declared.two_modules.AnswerPair.{AnswerPair}
use Rattle.est_explore.specs.declared.two_modules.PositionPair.{PositionPair}
use Rattle.state_search.specs.Table.{IsNodeAt, IsRow}
use Rattle.state_search.specs.Words.{Path, LedTo}
use Rattle.state_search.specs.declared.found.Found.{Found}
use Rattle.state_search.specs.declared.found.Node.{Node}
use Rattle.state_search.specs.declared.found.Row.{Row}
use Rattle.state_search.proofs.Nodes.{is_one, is_there}
use Rattle.state_search.proofs.Ways.{way_to}
use Rattle.est_explore.proofs.JudgeLemmas.{pairs_mapped}
use Rattle.est_explore.proofs.RunLemmas.{term_of_position}
use Rattle.est_explore.proofs.SameLemmas.{AreTwins, AgreeFor, same_for, lawful_for_second}

lawful_both : (m l : Module) (watched : ℕ → Bool) (x : PositionPair) (i : AnsweredInputs AnswerPair)
    (next : Option PositionPair)
    → DoesBoth m l watched x i next → IsLawful m (bits i.inputs)
lawful_both m l watched x i next d = record { offered = d.lawful.offered; kept = d.lawful.kept }

-- what both answer to the inputs themselves
own : (m l : Module) (watched : ℕ → Bool) (x : PositionPair) (i : AnsweredInputs AnswerPair)
    (next : Option PositionPair)
    → DoesBoth m l watched x i next → AnswersBoth m.kernel l.kernel x (bits i.inputs) i.answer next
own m l watched x i next d = d.answer (bits i.inputs) d.lawful.offered (λ n h. refl)

-- what both do, where both go on
pub record Step (m l : Module) (x z : PositionPair) (i : ℕ) (p : Answer) : Type 0 where
  pub first : Goes m (term_of_position m x.first) (bits i) (outputs_of p) (term_of_position m z.first)
  pub second : Goes l (term_of_position l x.second) (bits i) (outputs_of p) (term_of_position l z.second)

both_step : (m l : Module) (x z : PositionPair) (i : ℕ) (p q : Answer) (a b : Option Position)
    → AnswersSo m.kernel x.first (bits i) p a → AnswersSo l.kernel x.second (bits i) q b
    → Some z ≡ joined (agree p q) a b
    → Step m l x z i p
both_step m l x z i (Reaction o) (Stuck u) a b f g j = absurd (none j) where
  none : Some z ≡ None → ⊥
  none k = cc
both_step m l x z i (Stuck u) (Reaction o) a b f g j = absurd (none j) where
  none : Some z ≡ None → ⊥
  none k = cc
both_step m l x z i (Stuck u) (Stuck v) (Some y) b f g j = absurd f
both_step m l x z i (Stuck u) (Stuck v) None b f g j = absurd (none j) where
  none : Some z ≡ None → ⊥
  none k = cc
both_step m l x z i (Reaction o) (Reaction p) None b f g j = absurd f
both_step m l x z i (Reaction o) (Reaction p) (Some y) None f g j = absurd g
both_step m l x z i (Reaction o) (Reaction p) (Some y) (Some w) f g j = elim (cases_Bool (nat_eq o p)) [
  | inl t ↦
      let one : z ≡ record { first = y; second = w } = some_is (rw t at j) in
      rw one (record {
        first = f.reacts;
        second = subst (λ (r : ℕ). Goes l (term_of_position l x.second) (bits i) (bits r) (term_of_position l w))
            (sym (nat_same o p t)) g.reacts;
      })
  | inr n ↦ absurd (none (rw n at j))
] where
  none : Some z ≡ None → ⊥
  none k = cc

  some_is : Some z ≡ Some (record { first = y; second = w }) → z ≡ record { first = y; second = w }
  some_is k = cc

-- a way is a run of both
path_first : (m l : Module) (watched : ℕ → Bool) (x y : PositionPair) (word : List (AnsweredInputs AnswerPair))
    → Path (DoesBoth m l watched) x word y
    → Runs m (term_of_position m x.first) (map shown_first word) (term_of_position m y.first)
path_first m l watched x y [] path = ap (λ (z : PositionPair). term_of_position m z.first) path
path_first m l watched x y (i ∷ word) path =
    let d = own m l watched x i (Some path.0) path.1 in
    let s = both_step m l x path.0 i.inputs i.answer.first i.answer.second d.first_next d.second_next d.first d.second
    d.next_is in (
      term_of_position m path.0.first,
      lawful_both m l watched x i (Some path.0) path.1,
      s.first,
      path_first m l watched path.0 y word path.2,
    )

path_second : (m l : Module) (watched : ℕ → Bool) → AreTwins m l
    → (x y : PositionPair) (word : List (AnsweredInputs AnswerPair))
    → Path (DoesBoth m l watched) x word y
    → Runs l (term_of_position l x.second) (map shown_first word) (term_of_position l y.second)
path_second m l watched t x y [] path = ap (λ (z : PositionPair). term_of_position l z.second) path
path_second m l watched t x y (i ∷ word) path =
    let d = own m l watched x i (Some path.0) path.1 in
    let s = both_step m l x path.0 i.inputs i.answer.first i.answer.second d.first_next d.second_next
    d.first d.second d.next_is in (
      term_of_position l path.0.second,
      lawful_for_second m l t (bits i.inputs) (lawful_both m l watched x i (Some path.0) path.1),
      s.second,
      path_second m l watched t path.0 y word path.2,
    )

answers_at : (m : Module) (x : Position) (i : ℕ) (p : Answer) (a : Option Position)
    → AnswersSo m.kernel x (bits i) p a
    → AnswersAt m (term_of_position m x) i p
answers_at m x i (Reaction o) (Some y) h = (term_of_position m y, h.reacts)
answers_at m x i (Reaction o) None h = absurd h
answers_at m x i (Stuck u) (Some y) h = absurd h
answers_at m x i (Stuck u) None h = h.cannot

module _ (m l : Module) (twins : AreTwins m l) (watched : ℕ → Bool) (f : Found PositionPair (AnsweredInputs AnswerPair))
    (e : IsExploredBoth m l watched f) where
  deeper : (p q : ℕ) (a b : Node PositionPair) → IsNodeAt f.nodes.items p a → IsNodeAt f.nodes.items q b → p ≤ q
      → a.depth ≤ b.depth
  deeper p q a b i j w = elim (cases_lt p q) [
    | inl lt ↦ subst (λ (o : Node PositionPair). o.depth ≤ b.depth) (i.is a)
        (subst (λ (o : Node PositionPair). (get_or f.nodes.items p a).depth ≤ o.depth) (j.is a)
        (e.found.tree.ordered p q a lt j.within))
    | inr ge ↦
        let pq : p ≡ q = omega arith in
        let one : a ≡ b = is_one f.nodes.items q a b (rw pq at i) j in
        rw one (omega arith)
  ]

  -- where no row tells a difference
  pub agree_all : ((d : Row (AnsweredInputs AnswerPair)) (k : ℕ) → k < length f.rows.items
      → agree (get_or f.rows.items k d).label.answer.first (get_or f.rows.items k d).label.answer.second ≡ true)
      → length f.nodes.items ≤ f.done → (d : ℕ) → AgreeFor m l twins watched f e d
  agree_all pass all d = record {
    done = λ k n i w. let v = i.within in omega arith;
    agrees =
        λ row c n i w. subst (λ (r : Row (AnsweredInputs AnswerPair)). agree r.label.answer.first r.label.answer.second
        ≡ true)
        c.2 (pass row c.0 c.1);
  }

  -- before the first row that tells one
  agree_before : (at : ℕ) (r : Row (AnsweredInputs AnswerPair)) (n : Node PositionPair) → at < length f.rows.items
      → ((d : Row (AnsweredInputs AnswerPair)) (k : ℕ) → k < at
      → agree (get_or f.rows.items k d).label.answer.first (get_or f.rows.items k d).label.answer.second ≡ true)
      → get_or f.rows.items at r ≡ r → IsNodeAt f.nodes.items r.from n → AgreeFor m l twins watched f e n.depth
  agree_before at r n w pass is here = record {
    done = λ k o i v. elim (cases_lt k r.from) [
      | inl lt ↦ let turn : r.from ≤ f.done = subst (λ (a : Row (AnsweredInputs AnswerPair)). a.from ≤ f.done) is
          (e.found.turn at r w)
          in omega arith
      | inr ge ↦ absurd (let d = deeper r.from k n o here i ge in omega arith)
    ];
    agrees = λ row c o i v. elim (cases_lt c.0 at) [
      | inl lt ↦
          subst (λ (a : Row (AnsweredInputs AnswerPair)). agree a.label.answer.first a.label.answer.second ≡ true) c.2
          (pass row c.0 lt)
      | inr ge ↦ absurd (let d = deeper r.from row.from n o here i (later row c.0 c.1 c.2 ge) in omega arith)
    ];
  } where
    later : (row : Row (AnsweredInputs AnswerPair)) (k : ℕ) → k < length f.rows.items → get_or f.rows.items k row ≡ row
        → at ≤ k →
        r.from ≤ row.from
    later row k v s g = elim (cases_lt at k) [
      | inl lt ↦ subst (λ (a : Row (AnsweredInputs AnswerPair)). a.from ≤ row.from)
          (get_or_default f.rows.items at row r w ∙ is)
          (subst (λ (a : Row (AnsweredInputs AnswerPair)). (get_or f.rows.items at row).from ≤ a.from) s
          (e.found.tree.in_turn at k row lt v))
      | inr eq ↦
          let ka : k ≡ at = omega arith in
          let one : row ≡ r = sym s ∙ (rw ka (get_or_default f.rows.items at row r w) ∙ is) in
          rw one (omega arith)
    ]

  -- they differ by the first such row
  differ_by : (at : ℕ) (r : Row (AnsweredInputs AnswerPair)) (word : List (AnsweredInputs AnswerPair))
      → at < length f.rows.items
      → ((d : Row (AnsweredInputs AnswerPair)) (k : ℕ) → k < at
      → agree (get_or f.rows.items k d).label.answer.first (get_or f.rows.items k d).label.answer.second ≡ true)
      → get_or f.rows.items at r ≡ r → agree r.label.answer.first r.label.answer.second ≡ false
      → LedTo (DoesBoth m l watched) both_fresh f.nodes.items r word
      → DifferBy m l word
  differ_by at r word w pass is bad led = record {
    before = led.before;
    last = r.label;
    split = led.split;
    first_left = term_of_position m led.node.state.first;
    second_left = term_of_position l led.node.state.second;
    first_runs = path_first m l watched _ led.node.state led.before led.path;
    second_runs = path_second m l watched twins _ led.node.state led.before led.path;
    lawful = lawful_both m l watched led.node.state r.label row.after step;
    first_answers = answers_at m led.node.state.first r.label.inputs r.label.answer.first answer.first_next
        answer.first;
    second_answers = answers_at l led.node.state.second r.label.inputs r.label.answer.second answer.second_next
        answer.second;
    differ = bad;
    shortest = rw led.shortest
        (same_for m l twins watched f e led.node.depth (agree_before at r led.node w pass is led.from));
  } where
    row : IsRow (DoesBoth m l watched) f.nodes.items r
    row = subst (λ (a : Row (AnsweredInputs AnswerPair)). IsRow (DoesBoth m l watched) f.nodes.items a) is
        (All-get_or (IsRow (DoesBoth m l watched) f.nodes.items) f.rows.items at r w e.found.tree.sound)

    step : DoesBoth m l watched led.node.state r.label row.after
    step = subst (λ (o : Node PositionPair). DoesBoth m l watched o.state r.label row.after)
        (is_one f.nodes.items r.from row.before led.node row.from led.from) row.step

    answer : AnswersBoth m.kernel l.kernel led.node.state (bits r.label.inputs) r.label.answer row.after
    answer = own m l watched led.node.state r.label row.after step

  -- some row
  abbrev nothing : Row (AnsweredInputs AnswerPair)
  nothing = record {
    from = 0;
    label = record { inputs = 0; asked = 0; answer = record { first = Stuck 0; second = Stuck 0 } };
    next = None;
  }

  pub differ_first : (at : ℕ) (word : List (AnsweredInputs AnswerPair)) → at < length f.rows.items
      → ((d : Row (AnsweredInputs AnswerPair)) → agree (get_or f.rows.items at d).label.answer.first
      (get_or f.rows.items at d).label.answer.second ≡ false)
      → ((d : Row (AnsweredInputs AnswerPair)) (k : ℕ) → k < at
      → agree (get_or f.rows.items k d).label.answer.first (get_or f.rows.items k d).label.answer.second ≡ true)
      → ((r : Row (AnsweredInputs AnswerPair)) → LedTo (DoesBoth m l watched) both_fresh
      f.nodes.items (get_or f.rows.items at r) word)
      → DifferBy m l word
  differ_first at word w bad pass led = differ_by at (get_or f.rows.items at nothing) word w pass
      (get_or_default f.rows.items at (get_or f.rows.items at nothing) nothing w) (bad nothing) (led nothing)

  -- ---- what is reached

  reached : (k : ℕ) (n : Node PositionPair) → IsNodeAt f.nodes.items k n → IsReachedByBoth m l n.state
  reached k n here =
      let way = way_to (ArePositions m.kernel l.kernel) (DoesBoth m l watched)
      (λ (a b : AnsweredInputs AnswerPair). a.inputs ≢ b.inputs)
      both_fresh
      f.nodes.items f.rows.items e.found.tree e.begins k n here in
      record {
        run = map shown_first way.word;
        first_runs = path_first m l watched both_fresh n.state way.word way.path;
        second_runs = path_second m l watched twins both_fresh n.state way.word way.path;
      }

  pub more_pairs : (most : ℕ) → most < length f.nodes.items → HasMorePairs m l most
  more_pairs most w = record {
    positions = map (λ n. n.state) f.nodes.items;
    more = rw length-map w;
    distinct = pairs_mapped (λ x y. x ≢ y) (λ (n : Node PositionPair). n.state) f.nodes.items e.begins.node
        e.found.tree.distinct;
    reached = All-map (IsReachedByBoth m l) (λ (n : Node PositionPair). n.state) f.nodes.items
        (λ k d v. reached k (get_or f.nodes.items k d) (is_there f.nodes.items k d v));
  }

  trial : Row (AnsweredInputs AnswerPair) → PairTrial
  trial r = record { positions = (get_or f.nodes.items r.from e.begins.node).state; inputs = r.label.inputs }

  row_at : (k : ℕ) (d : Row (AnsweredInputs AnswerPair)) → k < length f.rows.items
      → IsRow (DoesBoth m l watched) f.nodes.items
      (get_or f.rows.items k d)
  row_at k d w = All-get_or (IsRow (DoesBoth m l watched) f.nodes.items) f.rows.items k d w e.found.tree.sound

  apart : (a b : Row (AnsweredInputs AnswerPair)) → IsRow (DoesBoth m l watched) f.nodes.items a
      → IsRow (DoesBoth m l watched) f.nodes.items b → a.from ≤ b.from
      → (a.from ≡ b.from → a.label.inputs ≢ b.label.inputs) → trial a ≢ trial b
  unfolding trial
  apart a b i j w differ one = elim (cases_lt a.from b.from) [
    | inl lt ↦ e.found.tree.distinct a.from b.from e.begins.node lt j.from.within
        (ap (λ (t : PairTrial). t.positions) one)
    | inr ge ↦ differ (omega arith) (ap (λ (t : PairTrial). t.inputs) one)
  ]

  pub more_pair_trials : (most : ℕ) → most < length f.rows.items → HasMorePairTrials m l most
  unfolding trial
  more_pair_trials most w = record {
    trials = map trial f.rows.items;
    more = rw length-map w;
    distinct = pairs_mapped (λ x y. x ≢ y) trial f.rows.items nothing
        (λ i j d k v. apart (get_or f.rows.items i d) (get_or f.rows.items j d) (row_at i d (omega arith))
        (row_at j d v)
        (e.found.tree.in_turn i j d k v) (e.found.tree.differ i j d k v));
    reached = All-map (λ a. IsReachedByBoth m l a.positions) trial f.rows.items
        (λ k d v. let row = row_at k d v in
        subst (λ (n : Node PositionPair). IsReachedByBoth m l n.state) (sym (row.from.is e.begins.node))
        (reached _ row.before row.from));
    lawful = All-map (λ a. IsLawful m (bits a.inputs)) trial f.rows.items
        (λ k d v. let row = row_at k d v in
        lawful_both m l watched row.before.state (get_or f.rows.items k d).label row.after row.step);
  }
