-- Runs of a module, by the rows that a search has found.
use Rattle.std.proofs.Common.{◌≡◌, ◌∙◌, ℕ, ◌<◌, ◌≤◌, ◌+◌, Bool, true, false, not, ◌||◌}
use Rattle.std.proofs.Common.{List, [], ◌∷◌, length, Option, sym, refl, ap, subst, arith}
use Rattle.std.proofs.Common.{Bor}
use Rattle.std.specs.List.{All, Contains}
use Rattle.std.proofs.Common.{inl, inr}
use Rattle.std.proofs.lemmas.Bool.{cases_Bool, false≢true}
use Rattle.std.proofs.lemmas.List.Elements.{All-nil, All-cons, All-contains}
use Rattle.est_kernel.specs.Bits.{bits}
use Rattle.est_kernel.specs.Term.{Term}
use Rattle.est_kernel.specs.declared.statement.Test.{Test}
use Rattle.est_meaning.proofs.OneReactionAtMost.{one_reaction}
use Rattle.est_meaning.specs.Laws.{IsSameReaction}
use Rattle.est_meaning.specs.Rounds.{judged_signals}
use Rattle.est_meaning.specs.States.{state_term}
use Rattle.est_explore.specs.Inner.Answers.{AnswersSo}
use Rattle.est_explore.specs.Claims.{holds, HasReaction, HoldsFor, IsToldBy, IsClaimToldBy}
use Rattle.est_explore.specs.Explored.{IsExplored, fails}
use Rattle.est_cover.specs.InputSets.{InputSet, Agrees, IsAsked, may_offer}
use Rattle.est_meaning.specs.Knowledge.{IsIn}
use Rattle.est_explore.specs.Runs.{Module, IsLawful, Instant, is_present, Goes, Runs, start}
use Rattle.est_cover.specs.declared.answered.AnsweredInputs.{AnsweredInputs}
use Rattle.est_explore.specs.declared.claim.Claim.{Claim}
use Rattle.est_explore.specs.declared.claim.Claim.TheVariants.{NeverStuck, Always}
use Rattle.est_explore.specs.declared.one_module.Answer.{Answer}
use Rattle.est_explore.specs.declared.one_module.Answer.TheVariants.{Reaction, Stuck}
use Rattle.est_explore.specs.declared.one_module.Position.{Position}
use Rattle.state_search.specs.Table.{IsNodeAt, Leads, nowhere, there, IsRow, HasRow}
use Rattle.state_search.specs.declared.found.Found.{Found}
use Rattle.state_search.specs.declared.found.Node.{Node}
use Rattle.state_search.specs.declared.found.Row.{Row}
use Rattle.state_search.proofs.Nodes.{is_one}

-- two reactions to the same inputs are one
pub same : (m : Module) (t : Term) (inputs : InputSet) (o : ℕ → Bool) (u : Term) (p : ℕ → Bool) (v : Term)
    → Goes m t inputs o u → Goes m t inputs p v → IsSameReaction o u p v
same m t inputs o u p v r s = one_reaction (judged_signals m.kernel.interface inputs) inputs t o u p v r s

-- the term of a position
abbrev pub term_of_position : Module → Position → Term
term_of_position m x = state_term m.kernel.root x.state

-- what a search takes for a step
abbrev pub DoesSo : Module → (watched : ℕ → Bool) → Position → AnsweredInputs Answer → Option Position → Type 0
DoesSo m watched x i next = IsAsked (AnswersSo m.kernel x)
    (may_offer m.kernel.interface m.allowed) m.relations watched i
    next

-- what is not among signals
not_in : (f may : ℕ → Bool) → IsIn f may → (n : ℕ) → may n ≡ false → f n ≡ false
not_in f may within n out = elim (cases_Bool (f n)) [
  | inl t ↦ absurd (false≢true (sym out ∙ within n t))
  | inr e ↦ e
]

module _ (m : Module) (watched : ℕ → Bool) (f : Found Position (AnsweredInputs Answer))
    (e : IsExplored m watched f) where
  abbrev Does : Position → AnsweredInputs Answer → Option Position → Type 0
  Does = DoesSo m watched

  -- the row for these inputs at a node all of whose rows are there
  pub record RowFor (k : ℕ) (n : Node Position) (inputs : InputSet) : Type 0 where
    pub row : Row (AnsweredInputs Answer)
    pub listed : Contains f.rows.items row
    pub from : row.from ≡ k
    pub is : Agrees (bits row.label.asked) (bits row.label.inputs) inputs
    pub after : Option Position
    pub leads : Leads f.nodes.items (n.depth + 1) row.next after
    pub step : DoesSo m watched n.state row.label after
    pub answer : AnswersSo m.kernel n.state inputs row.label.answer after

  pub row_for : (k : ℕ) (n : Node Position) (inputs : InputSet) → IsNodeAt f.nodes.items k n → k < f.done
      → IsLawful m inputs
      → RowFor k n inputs
  row_for k n inputs here l lawful =
      let all = e.found.all k n l here in
      let one = all.all_of inputs lawful.offered lawful.kept in
      let has : HasRow f.nodes.items f.rows.items k n one.step =
      All-contains (HasRow f.nodes.items f.rows.items k n) all.steps one.step all.listed one.listed in
      let row : IsRow Does f.nodes.items has.row = All-contains (IsRow Does f.nodes.items) f.rows.items has.row
      e.found.tree.sound has.listed in
      let same_node : row.before ≡ n = is_one f.nodes.items k row.before n (rw has.from at row.from) here in
      let step : Does n.state has.row.label row.after = rw same_node at row.step in
      let is : Agrees (bits has.row.label.asked) (bits has.row.label.inputs) inputs =
      subst (λ (a : AnsweredInputs Answer). Agrees (bits a.asked) (bits a.inputs) inputs) (sym has.label) one.agrees in
      record {
        row = has.row;
        listed = has.listed;
        from = has.from;
        is = is;
        after = row.after;
        leads = rw same_node at row.leads;
        step = step;
        answer = step.answer inputs lawful.offered is;
      }

  -- what follows by an answer, where the term goes on
  pub record FollowsBy (answer : Answer) (most : ℕ) (outputs : ℕ → Bool) (v : Term) : Type 0 where
    pub emitted : ℕ
    pub is : answer ≡ Reaction emitted
    pub shows : bits emitted ≡ outputs
    pub place : ℕ
    pub node : Node Position
    pub here : IsNodeAt f.nodes.items place node
    pub few : node.depth ≤ most
    pub term : term_of_position m node.state ≡ v

  follow_by : (x : Position) (most : ℕ) (inputs : InputSet) (answer : Answer) (place : Option ℕ)
      (after : Option Position) → Leads f.nodes.items most place after → AnswersSo m.kernel x inputs answer after
      → (outputs : ℕ → Bool) (v : Term) → Goes m (term_of_position m x) inputs outputs v → FollowsBy answer most outputs
      v
  follow_by x most inputs (Reaction o) place after nowhere a outputs v goes = absurd a
  follow_by x most inputs (Stuck u) place after (there p n here few) a outputs v goes = absurd a
  follow_by x most inputs (Stuck u) place after nowhere a outputs v goes =
      absurd (a.cannot goes.signals goes.code v goes.gives)
  follow_by x most inputs (Reaction o) place after (there p n here few) a outputs v goes =
      let one = same m (term_of_position m x) inputs (bits o) (term_of_position m n.state) outputs v a.reacts goes in
      record { emitted = o; is = refl; shows = one.shown; place = p; node = n; here = here; few = few; term = one.next }

  pub follows : (k : ℕ) (n : Node Position) (inputs : InputSet) (r : RowFor k n inputs) (outputs : ℕ → Bool) (v : Term)
      → Goes m (term_of_position m n.state) inputs outputs v → FollowsBy r.row.label.answer (n.depth + 1) outputs v
  follows k n inputs r outputs v goes = follow_by n.state (n.depth + 1) inputs r.row.label.answer r.row.next r.after
      r.leads r.answer outputs v goes

  -- all nodes of fewer steps than d have all their rows, and the claim fails in none of these
  pub record IsCleared (claim : Claim) (d : ℕ) : Type 0 where
    pub done : (k : ℕ) (n : Node Position) → IsNodeAt f.nodes.items k n → n.depth < d → k < f.done
    pub passes : (row : Row (AnsweredInputs Answer)) → Contains f.rows.items row → (n : Node Position)
        → IsNodeAt f.nodes.items
        row.from n
        → n.depth < d → fails claim row.label.inputs row.label.answer ≡ false

  -- the term is that of a node of so many steps at most
  pub record GoneTo (most : ℕ) (t : Term) : Type 0 where
    pub place : ℕ
    pub node : Node Position
    pub here : IsNodeAt f.nodes.items place node
    pub few : node.depth ≤ most
    pub term : term_of_position m node.state ≡ t

  pub run_goes : (claim : Claim) (d : ℕ) → IsCleared claim d → (k : ℕ) (n : Node Position) → IsNodeAt f.nodes.items k n
      → (run : List Instant) (t : Term) → Runs m (term_of_position m n.state) run t → n.depth + length run ≤ d
      → GoneTo (n.depth + length run) t
  run_goes claim d c k n here [] t run l =
      record { place = k; node = n; here = here; few = omega arith; term = run }
  run_goes claim d c k n here (i ∷ run) t runs l =
      let r = row_for k n i.inputs here (c.done k n here (omega arith)) runs.1 in
      let s = follows k n i.inputs r i.outputs runs.0 runs.2 in
      let few = s.few in
      let g = run_goes claim d c s.place s.node s.here run t (subst (λ (v : Term). Runs m v run t) (sym s.term) runs.3)
      (omega arith) in
      record { place = g.place; node = g.node; here = g.here; few = let w = g.few in omega arith; term = g.term }

  -- what is watched is the same in all inputs that a step is for
  same_watched : (x : Position) (i : AnsweredInputs Answer) (after : Option Position) → Does x i after
      → (inputs : InputSet)
      → IsLawful m inputs → Agrees (bits i.asked) (bits i.inputs) inputs → (n : ℕ) → watched n ≡ true
      → inputs n ≡ bits i.inputs n
  same_watched x i after step inputs lawful is n t = elim (cases_Bool (may_offer m.kernel.interface m.allowed n)) [
    | inl y ↦ is n (step.asks n y t)
    | inr out ↦ not_in inputs (may_offer m.kernel.interface m.allowed) lawful.offered n out
        ∙ sym (not_in (bits i.inputs) (may_offer m.kernel.interface m.allowed) step.lawful.offered n out)
  ]

  passes_holds : (test : Bor Test) → IsToldBy test.now watched → (i : ℕ) (answer : Answer) (emitted : ℕ)
      (inputs outputs : ℕ → Bool) → answer ≡ Reaction emitted
      → ((n : ℕ) → watched n ≡ true → inputs n ≡ bits i n) → bits emitted ≡ outputs
      → fails (Always test) i answer ≡ false → holds test.now (λ n. inputs n || outputs n) ≡ true
  passes_holds test told i answer emitted inputs outputs a b c h =
      let g : not (holds test.now (λ n. bits i n || bits emitted n)) ≡ false = rw a at h in
      told (λ n. inputs n || outputs n) (λ n. bits i n || bits emitted n) like ∙ at _ g where
        at : (x : Bool) → not x ≡ false → x ≡ true
        at true h = refl
        at false h = absurd (false≢true (sym h))

        like : (n : ℕ) → watched n ≡ true → (inputs n || outputs n) ≡ (bits i n || bits emitted n)
        like n t = rw (b n t, c) refl

  pub run_passes : (test : Bor Test) → IsToldBy test.now watched → (d : ℕ) → IsCleared (Always test) d → (k : ℕ)
      (n : Node Position) → IsNodeAt f.nodes.items k n
      → (run : List Instant) (t : Term) → Runs m (term_of_position m n.state) run t → n.depth + length run ≤ d
      → All (λ i. holds test.now (is_present i) ≡ true) run
  run_passes test told d c k n here [] t run l = All-nil (λ i. holds test.now (is_present i) ≡ true)
  run_passes test told d c k n here (i ∷ run) t runs l =
      let r = row_for k n i.inputs here (c.done k n here (omega arith)) runs.1 in
      let s = follows k n i.inputs r i.outputs runs.0 runs.2 in
      let few = s.few in
      All-cons (λ j. holds test.now (is_present j) ≡ true) i run
      (passes_holds test told r.row.label.inputs r.row.label.answer s.emitted i.inputs i.outputs s.is
      (same_watched n.state r.row.label r.after r.step i.inputs runs.1 r.is) s.shows
      (c.passes r.row r.listed n (rw r.from here) (omega arith)))
      (run_passes test told d c s.place s.node s.here run t (subst (λ (v : Term). Runs m v run t) (sym s.term) runs.3)
      (omega arith))

  reacts_by : (x : Position) (most : ℕ) (inputs : InputSet) (i : ℕ) (answer : Answer) (place : Option ℕ)
      (after : Option Position) → Leads f.nodes.items most place after → AnswersSo m.kernel x inputs answer after
      → fails NeverStuck i answer ≡ false → HasReaction m (term_of_position m x) inputs
  reacts_by x most inputs i (Reaction o) place after nowhere a h = absurd a
  reacts_by x most inputs i (Stuck u) place after leads a h = absurd (false≢true (sym h))
  reacts_by x most inputs i (Reaction o) place after (there p n here few) a h =
      record { outputs = bits o; next = term_of_position m n.state; goes = a.reacts }

  -- ---- from the first node on

  first_term : term_of_position m e.begins.node.state ≡ start m
  first_term = ap (λ (x : Position). term_of_position m x) e.begins.state

  first_depth : e.begins.node.depth ≡ 0
  first_depth = ap (λ (n : Node Position). n.depth) (is_one f.nodes.items 0 e.begins.node e.found.tree.first e.begins.is
      e.found.tree.begins)
      ∙ e.found.tree.none

  pub holds_for : (claim : Claim) → IsClaimToldBy claim watched → (d : ℕ) → IsCleared claim d → HoldsFor m claim d
  holds_for NeverStuck told d c = λ run t runs l inputs lawful.
      let none = first_depth in
      let g = run_goes NeverStuck d c 0 e.begins.node e.begins.is run t
      (subst (λ (v : Term). Runs m v run t) (sym first_term) runs) (omega arith) in
      let few = g.few in
      let r = row_for g.place g.node inputs g.here (c.done g.place g.node g.here (omega arith)) lawful in
      subst (λ (v : Term). HasReaction m v inputs) g.term
      (reacts_by g.node.state (g.node.depth + 1) inputs r.row.label.inputs r.row.label.answer r.row.next r.after
      r.leads r.answer
      (c.passes r.row r.listed g.node (rw r.from g.here) (omega arith)))
  holds_for (Always test) told d c = λ run is l.
      let none = first_depth in
      run_passes test told d c 0 e.begins.node e.begins.is run is.left
      (subst (λ (v : Term). Runs m v run is.left) (sym first_term) is.runs) (omega arith)
