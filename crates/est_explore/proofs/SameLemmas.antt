-- Runs of two modules, by the rows that a search of both has found.
use Rattle.std.proofs.Common.{◌≡◌, ◌∙◌, ℕ, ◌<◌, ◌≤◌, ◌+◌, Bool, true, List, [], ◌∷◌, length}
use Rattle.std.proofs.Common.{Option, Some, None, sym, refl, ap, subst, arith}
use Rattle.std.specs.List.{Contains}
use Rattle.std.proofs.lemmas.Bool.{false≢true}
use Rattle.std.proofs.lemmas.List.Elements.{All-contains}
use Rattle.est_kernel.specs.Bits.{bits}
use Rattle.est_kernel.specs.Term.{Term}
use Rattle.est_relations.proofs.Members.{nat_same}
use Rattle.est_explore.specs.Inner.Answers.{AnswersSo}
use Rattle.est_explore.specs.Inner.Pairs.{agree, joined}
use Rattle.est_cover.specs.InputSets.{InputSet, Agrees, may_offer}
use Rattle.est_explore.specs.Runs.{Module, IsLawful, Instant, Goes, Runs, start}
use Rattle.est_explore.specs.ExploredBoth.{DoesBoth, IsExploredBoth}
use Rattle.est_explore.specs.Same.{SameFor}
use Rattle.est_cover.specs.declared.answered.AnsweredInputs.{AnsweredInputs}
use Rattle.est_explore.specs.declared.one_module.Answer.{Answer}
use Rattle.est_explore.specs.declared.one_module.Answer.TheVariants.{Reaction, Stuck}
use Rattle.est_explore.specs.declared.one_module.Position.{Position}
use Rattle.est_explore.specs.declared.two_modules.AnswerPair.{AnswerPair}
use Rattle.est_explore.specs.declared.two_modules.PositionPair.{PositionPair}
use Rattle.state_search.specs.Table.{IsNodeAt, Leads, nowhere, there, IsRow, HasRow}
use Rattle.state_search.specs.declared.found.Found.{Found}
use Rattle.state_search.specs.declared.found.Node.{Node}
use Rattle.state_search.specs.declared.found.Row.{Row}
use Rattle.state_search.proofs.Nodes.{is_one}
use Rattle.est_explore.proofs.RunLemmas.{same, term_of_position}

-- what both do with some inputs: neither reacts, or both react, with the same outputs
pub data BothDo (m l : Module) (t u : Term) (inputs : InputSet) (nodes : List (Node PositionPair)) (most : ℕ) : Type 0
  where
    are_stuck : ((o : ℕ → Bool) (v : Term) → Goes m t inputs o v → ⊥) →
        ((o : ℕ → Bool) (v : Term) → Goes l u inputs o v → ⊥)
        → BothDo m l t u inputs nodes most
    go_on : (o : ℕ → Bool) (place : ℕ) (n : Node PositionPair) → IsNodeAt nodes place n → n.depth ≤ most
        → Goes m t inputs o (term_of_position m n.state.first) → Goes l u inputs o (term_of_position l n.state.second)
        → BothDo m l t u inputs nodes most

both_do : (m l : Module) (x : PositionPair) (inputs : InputSet) (p q : Answer) (a b : Option Position)
    → AnswersSo m.kernel x.first inputs p a → AnswersSo l.kernel x.second inputs q b → agree p q ≡ true
    → (nodes : List (Node PositionPair)) (most : ℕ) (place : Option ℕ) (after : Option PositionPair)
    → Leads nodes most place
    after
    → after ≡ joined (agree p q) a b
    → BothDo m l (term_of_position m x.first) (term_of_position l x.second) inputs nodes most
both_do m l x inputs (Reaction o) (Stuck u) a b f g h nodes most place after leads j = absurd (false≢true h)
both_do m l x inputs (Stuck u) (Reaction o) a b f g h nodes most place after leads j = absurd (false≢true h)
both_do m l x inputs (Stuck u) (Stuck v) (Some y) b f g h nodes most place after leads j = absurd f
both_do m l x inputs (Stuck u) (Stuck v) None (Some z) f g h nodes most place after leads j = absurd g
both_do m l x inputs (Stuck u) (Stuck v) None None f g h nodes most place after leads j =
    are_stuck (λ o w r. f.cannot r.signals r.code w r.gives) (λ o w r. g.cannot r.signals r.code w r.gives)
both_do m l x inputs (Reaction o) (Reaction p) None b f g h nodes most place after leads j = absurd f
both_do m l x inputs (Reaction o) (Reaction p) (Some y) None f g h nodes most place after leads j = absurd g
both_do m l x inputs (Reaction o) (Reaction p) (Some y) (Some z) f g h nodes most place after nowhere j = absurd
    (none (rw h at j)) where
      none : ◌≡◌ {A = Option PositionPair} None (Some (record { first = y; second = z })) → ⊥
      none k = cc
both_do m l x inputs (Reaction o) (Reaction p) (Some y) (Some z) f g h nodes most place after (there k n is few) j =
    go_on (bits o) k n is few
    (subst (λ (w : PositionPair). Goes m (term_of_position m x.first) inputs (bits o)
    (term_of_position m w.first)) (sym one) f.reacts)
    (subst (λ (w : PositionPair). Goes l (term_of_position l x.second) inputs (bits o)
    (term_of_position l w.second)) (sym one)
    (subst (λ (r : ℕ). Goes l (term_of_position l x.second) inputs (bits r) (term_of_position l z))
    (sym (nat_same o p h)) g.reacts)) where
      one : n.state ≡ record { first = y; second = z }
      one = some_is (rw h at j) where
        some_is : Some n.state ≡ Some (record { first = y; second = z }) → n.state ≡ record { first = y; second = z }
        some_is k = cc

-- over one interface, with the same relations and inputs
pub record AreTwins (m l : Module) : Type 0 where
  pub interface : l.kernel.interface ≡ m.kernel.interface
  pub relations : l.relations ≡ m.relations
  pub allowed : l.allowed ≡ m.allowed

lawful_for_first : (m l : Module) → AreTwins m l → (inputs : InputSet) → IsLawful l inputs → IsLawful m inputs
lawful_for_first m l t inputs h = record {
  offered = λ n o. subst (λ (ds : _). may_offer ds m.allowed n ≡ true) t.interface
      (subst (λ (a : ℕ → Bool). may_offer l.kernel.interface a n ≡ true) t.allowed (h.offered n o));
  kept = rw (← t.relations) h.kept;
}

pub lawful_for_second : (m l : Module) → AreTwins m l → (inputs : InputSet) → IsLawful m inputs → IsLawful l inputs
lawful_for_second m l t inputs h = record {
  offered = λ n o. subst (λ (ds : _). may_offer ds l.allowed n ≡ true) (sym t.interface)
      (subst (λ (a : ℕ → Bool). may_offer m.kernel.interface a n ≡ true) (sym t.allowed) (h.offered n o));
  kept = rw t.relations h.kept;
}

module _ (m l : Module) (twins : AreTwins m l) (watched : ℕ → Bool) (f : Found PositionPair (AnsweredInputs AnswerPair))
    (e : IsExploredBoth m l watched f) where
  -- all nodes of fewer steps than d have all their rows, and in none of these the two differ
  pub record AgreeFor (d : ℕ) : Type 0 where
    pub done : (k : ℕ) (n : Node PositionPair) → IsNodeAt f.nodes.items k n → n.depth < d → k < f.done
    pub agrees : (row : Row (AnsweredInputs AnswerPair)) → Contains f.rows.items row → (n : Node PositionPair)
        → IsNodeAt f.nodes.items row.from
        n
        → n.depth < d → agree row.label.answer.first row.label.answer.second ≡ true

  do_at : (d k : ℕ) (n : Node PositionPair) (inputs : InputSet) → AgreeFor d → IsNodeAt f.nodes.items k n → n.depth < d
      → IsLawful m inputs
      → BothDo m l (term_of_position m n.state.first) (term_of_position l n.state.second) inputs f.nodes.items
      (n.depth + 1)
  do_at d k n inputs c here w lawful =
      let all = e.found.all k n (c.done k n here w) here in
      let one = all.all_of inputs lawful.offered lawful.kept in
      let has : HasRow f.nodes.items f.rows.items k n one.step =
      All-contains (HasRow f.nodes.items f.rows.items k n) all.steps one.step all.listed one.listed in
      let row : IsRow (DoesBoth m l watched) f.nodes.items has.row =
      All-contains (IsRow (DoesBoth m l watched) f.nodes.items) f.rows.items has.row e.found.tree.sound has.listed in
      let same_node : row.before ≡ n = is_one f.nodes.items k row.before n (rw has.from at row.from) here in
      let step : DoesBoth m l watched n.state has.row.label row.after = rw same_node at row.step in
      let is : Agrees (bits has.row.label.asked) (bits has.row.label.inputs) inputs =
      subst (λ (a : AnsweredInputs AnswerPair). Agrees (bits a.asked) (bits a.inputs) inputs)
      (sym has.label) one.agrees in
      let answer = step.answer inputs lawful.offered is in
      both_do m l n.state inputs has.row.label.answer.first has.row.label.answer.second answer.first_next
      answer.second_next answer.first answer.second (c.agrees has.row has.listed n (rw has.from here) w)
      f.nodes.items (n.depth + 1) has.row.next row.after (rw same_node at row.leads) answer.next_is

  -- what one does, the other does
  second_runs : (d : ℕ) → AgreeFor d → (k : ℕ) (n : Node PositionPair) → IsNodeAt f.nodes.items k n
      → (run : List Instant)
      (t : Term)
      → Runs m (term_of_position m n.state.first) run t → n.depth + length run ≤ d
      → (u : Term) × Runs l (term_of_position l n.state.second) run u
  second_runs d c k n here [] t runs w = (term_of_position l n.state.second, refl)
  second_runs d c k n here (i ∷ run) t runs w = by (do_at d k n i.inputs c here (omega arith) runs.1)
      (λ p o q few v. second_runs d c p o q run t v (omega arith)) where
        by : BothDo m l (term_of_position m n.state.first) (term_of_position l n.state.second) i.inputs f.nodes.items
            (n.depth + 1)
            → ((p : ℕ) (o : Node PositionPair) → IsNodeAt f.nodes.items p o → o.depth ≤ n.depth + 1
            → Runs m (term_of_position m o.state.first) run t → (u : Term) × Runs l (term_of_position l o.state.second)
            run u)
            → (u : Term) × Runs l (term_of_position l n.state.second) (i ∷ run) u
        by (are_stuck a b) more = absurd (a i.outputs runs.0 runs.2)
        by (go_on o p q is few g h) more =
            let one = same m (term_of_position m n.state.first) i.inputs o (term_of_position m q.state.first) i.outputs
            runs.0 g runs.2 in
            let rest = more p q is few (subst (λ (v : Term). Runs m v run t) (sym one.next) runs.3) in (
              rest.0,
              (
                term_of_position l q.state.second,
                lawful_for_second m l twins i.inputs runs.1,
                subst (λ (s : ℕ → Bool). Goes l (term_of_position l n.state.second) i.inputs s
                    (term_of_position l q.state.second)) one.shown h,
                rest.1,
              ),
            )

  first_runs : (d : ℕ) → AgreeFor d → (k : ℕ) (n : Node PositionPair) → IsNodeAt f.nodes.items k n
      → (run : List Instant)
      (t : Term)
      → Runs l (term_of_position l n.state.second) run t → n.depth + length run ≤ d
      → (u : Term) × Runs m (term_of_position m n.state.first) run u
  first_runs d c k n here [] t runs w = (term_of_position m n.state.first, refl)
  first_runs d c k n here (i ∷ run) t runs w = by
      (do_at d k n i.inputs c here (omega arith) (lawful_for_first m l twins i.inputs runs.1))
      (λ p o q few v. first_runs d c p o q run t v (omega arith)) where
        by : BothDo m l (term_of_position m n.state.first) (term_of_position l n.state.second) i.inputs f.nodes.items
            (n.depth + 1)
            → ((p : ℕ) (o : Node PositionPair) → IsNodeAt f.nodes.items p o → o.depth ≤ n.depth + 1
            → Runs l (term_of_position l o.state.second) run t → (u : Term) × Runs m (term_of_position m o.state.first)
            run u)
            → (u : Term) × Runs m (term_of_position m n.state.first) (i ∷ run) u
        by (are_stuck a b) more = absurd (b i.outputs runs.0 runs.2)
        by (go_on o p q is few g h) more =
            let one = same l (term_of_position l n.state.second) i.inputs o (term_of_position l q.state.second)
            i.outputs
            runs.0 h runs.2 in
            let rest = more p q is few (subst (λ (v : Term). Runs l v run t) (sym one.next) runs.3) in (
              rest.0,
              (
                term_of_position m q.state.first,
                lawful_for_first m l twins i.inputs runs.1,
                subst (λ (s : ℕ → Bool). Goes m (term_of_position m n.state.first) i.inputs s
                    (term_of_position m q.state.first)) one.shown g,
                rest.1,
              ),
            )

  begin_first : term_of_position m e.begins.node.state.first ≡ start m
  begin_first = ap (λ (x : PositionPair). term_of_position m x.first) e.begins.state

  begin_second : term_of_position l e.begins.node.state.second ≡ start l
  begin_second = ap (λ (x : PositionPair). term_of_position l x.second) e.begins.state

  begin_depth : e.begins.node.depth ≡ 0
  begin_depth = ap (λ (n : Node PositionPair). n.depth) (is_one f.nodes.items 0 e.begins.node e.found.tree.first
      e.begins.is e.found.tree.begins)
      ∙ e.found.tree.none

  pub same_for : (d : ℕ) → AgreeFor d → SameFor m l d
  same_for d c = λ run w.
      let none = begin_depth in (
        λ is. let other = second_runs d c 0 e.begins.node e.begins.is run is.left
            (subst (λ (v : Term). Runs m v run is.left) (sym begin_first) is.runs) (omega arith) in
            record { left = other.0; runs = subst (λ (v : Term). Runs l v run other.0) begin_second other.1 },
        λ is. let other = first_runs d c 0 e.begins.node e.begins.is run is.left
            (subst (λ (v : Term). Runs l v run is.left) (sym begin_second) is.runs) (omega arith) in
            record { left = other.0; runs = subst (λ (v : Term). Runs m v run other.0) begin_first other.1 },
      )
