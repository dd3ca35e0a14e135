-- What the rows of a search say of a claim.
use Rattle.std.proofs.Common.{◌≡◌, ◌≢◌, ◌∙◌, ℕ, zero, suc, ◌<◌, ◌≤◌, Bool, true, false, not}
use Rattle.std.proofs.Common.{List, [], ◌∷◌, ◌++◌, length, map, get_or, Option, Some, None, sym, refl, ap, subst, arith}
use Rattle.std.proofs.Common.{inl, inr}
use Rattle.std.specs.List.{AllPairs}
use Rattle.std.proofs.lemmas.Bool.{cases_lt, cases_eq, false≢true}
use Rattle.std.proofs.lemmas.List.{length-map, get_or-map, get_or_default}
use Rattle.std.proofs.lemmas.List.Elements.{All-get_or, All-map}
use Rattle.est_kernel.specs.Bits.{bits}
use Rattle.est_kernel.specs.Term.{Term}
use Rattle.est_kernel.specs.declared.state.State.TheVariants.{Fresh}
use Rattle.est_meaning.specs.States.{IsState}
use Rattle.est_explore.specs.Inner.Answers.{AnswersSo}
use Rattle.est_explore.specs.Claims.{IsClaimToldBy}
use Rattle.est_explore.specs.Explored.{IsExplored, fails}
use Rattle.est_explore.specs.Runs.{Module, IsLawful, Instant, Goes, Runs, start}
use Rattle.est_explore.specs.Verdicts.{shown, outputs_of, FailsAt, FailsBy, IsReached, HasMoreStates, HasMoreTrials}
use Rattle.est_explore.specs.Verdicts.{Trial}
use Rattle.est_cover.specs.declared.answered.AnsweredInputs.{AnsweredInputs}
use Rattle.est_explore.specs.declared.claim.Claim.{Claim}
use Rattle.est_explore.specs.declared.claim.Claim.TheVariants.{NeverStuck, Always}
use Rattle.est_explore.specs.declared.one_module.Answer.{Answer}
use Rattle.est_explore.specs.declared.one_module.Answer.TheVariants.{Reaction, Stuck}
use Rattle.est_explore.specs.declared.one_module.Position.{Position}
use Rattle.state_search.specs.Table.{IsNodeAt, IsRow, IsReachedByRow}
use Rattle.state_search.specs.Words.{Path, LedTo}
use Rattle.state_search.specs.declared.found.Found.{Found}
use Rattle.state_search.specs.declared.found.Node.{Node}
use Rattle.state_search.specs.declared.found.Row.{Row}
use Rattle.state_search.proofs.BackLemmas.{leads_there}
use Rattle.state_search.proofs.Nodes.{is_one, is_there}
use Rattle.est_explore.proofs.RunLemmas.{term_of_position, DoesSo, IsCleared, holds_for}

-- lawful inputs, from their mask
lawful_of : (m : Module) (watched : ℕ → Bool) (x : Position) (i : AnsweredInputs Answer) (next : Option Position)
    → DoesSo m watched x i next → IsLawful m (bits i.inputs)
lawful_of m watched x i next d = record { offered = d.lawful.offered; kept = d.lawful.kept }

-- what is answered to the inputs themselves
own : (m : Module) (watched : ℕ → Bool) (x : Position) (i : AnsweredInputs Answer) (next : Option Position)
    → DoesSo m watched x i next → AnswersSo m.kernel x (bits i.inputs) i.answer next
own m watched x i next d = d.answer (bits i.inputs) d.lawful.offered (λ n h. refl)

-- a step is a reaction
goes_of : (m : Module) (x y : Position) (inputs : ℕ) (answer : Answer)
    → AnswersSo m.kernel x (bits inputs) answer (Some y)
    → Goes m (term_of_position m x) (bits inputs) (outputs_of answer) (term_of_position m y)
goes_of m x y inputs (Reaction o) a = a.reacts
goes_of m x y inputs (Stuck u) a = absurd a

-- a way is a run
pub path_runs : (m : Module) (watched : ℕ → Bool) (x y : Position) (word : List (AnsweredInputs Answer))
    → Path (DoesSo m watched) x word y
    → Runs m (term_of_position m x) (map shown word) (term_of_position m y)
path_runs m watched x y [] path = ap (λ (z : Position). term_of_position m z) path
path_runs m watched x y (i ∷ word) path = (
  term_of_position m path.0,
  lawful_of m watched x i (Some path.0) path.1,
  goes_of m x path.0 i.inputs i.answer (own m watched x i (Some path.0) path.1),
  path_runs m watched path.0 y word path.2,
)

-- how a claim fails
fails_at : (m : Module) (claim : Claim) (x : Position) (inputs : ℕ) (answer : Answer) (next : Option Position)
    → AnswersSo m.kernel x (bits inputs) answer next → fails claim inputs answer ≡ true
    → FailsAt m claim (term_of_position m x) inputs answer
fails_at m NeverStuck x inputs (Stuck u) (Some y) a h = absurd a
fails_at m NeverStuck x inputs (Stuck u) None a h = (a.cannot, a.undecided)
fails_at m NeverStuck x inputs (Reaction o) next a h = false≢true h
fails_at m (Always test) x inputs (Stuck u) next a h = false≢true h
fails_at m (Always test) x inputs (Reaction o) None a h = absurd a
fails_at m (Always test) x inputs (Reaction o) (Some y) a h = (term_of_position m y, a.reacts, at _ h) where
  at : (b : Bool) → not b ≡ true → b ≡ false
  at true k = absurd (false≢true k)
  at false k = refl

-- a run, and one more instant
runs_on : (m : Module) (t : Term) (run : List Instant) (u : Term) (i : Instant) (v : Term) → Runs m t run u → IsLawful m
    i.inputs
    → Goes m u i.inputs i.outputs v → Runs m t (run ++ i ∷ []) v
runs_on m t [] u i v runs lawful goes = (v, lawful, rw runs goes, refl)
runs_on m t (j ∷ run) u i v runs lawful goes = (runs.0, runs.1, runs.2, runs_on m runs.0 run u i v runs.3 lawful goes)

-- pairs of a list, of what its members are mapped to
pub pairs_mapped : {X Y : Type 0} (P : Y → Y → Type 0) (g : X → Y) (xs : List X) → X → AllPairs (λ a b. P (g a) (g b))
    xs
    → AllPairs P (map g xs)
pairs_mapped P g xs x h i j d l w =
    let within : j < length xs = rw length-map at w in
    rw (get_or-map g xs i x d (omega arith), get_or-map g xs j x d within) (h i j x l within)

module _ (m : Module) (watched : ℕ → Bool) (f : Found Position (AnsweredInputs Answer))
    (e : IsExplored m watched f) where
  -- nodes come after those of fewer steps
  deeper : (p q : ℕ) (a b : Node Position) → IsNodeAt f.nodes.items p a → IsNodeAt f.nodes.items q b → p ≤ q
      → a.depth ≤ b.depth
  deeper p q a b i j l = elim (cases_lt p q) [
    | inl lt ↦ subst (λ (o : Node Position). o.depth ≤ b.depth) (i.is a)
        (subst (λ (o : Node Position). (get_or f.nodes.items p a).depth ≤ o.depth) (j.is a)
        (e.found.tree.ordered p q a lt j.within))
    | inr ge ↦
        let same : p ≡ q = omega arith in
        let one : a ≡ b = is_one f.nodes.items q a b (rw same at i) j in
        rw one (omega arith)
  ]

  -- where no row fails
  pub cleared_all : (claim : Claim) → ((d : Row (AnsweredInputs Answer)) (k : ℕ) → k < length f.rows.items
      → fails claim (get_or f.rows.items k d).label.inputs (get_or f.rows.items k d).label.answer ≡ false)
      → length f.nodes.items ≤ f.done → (d : ℕ) → IsCleared m watched f e claim d
  cleared_all claim pass all d = record {
    done = λ k n i l. let w = i.within in omega arith;
    passes =
        λ row c n i l. subst (λ (r : Row (AnsweredInputs Answer)). fails claim r.label.inputs r.label.answer ≡ false)
        c.2
        (pass row c.0 c.1);
  }

  -- before the first row that fails
  pub cleared_before : (claim : Claim) (at : ℕ) (r : Row (AnsweredInputs Answer)) (n : Node Position)
      → at < length f.rows.items
      → ((d : Row (AnsweredInputs Answer)) (k : ℕ) → k < at
      → fails claim (get_or f.rows.items k d).label.inputs (get_or f.rows.items k d).label.answer ≡ false)
      → get_or f.rows.items at r ≡ r → IsNodeAt f.nodes.items r.from n → IsCleared m watched f e claim n.depth
  cleared_before claim at r n w pass is here = record {
    done = λ k o i l. elim (cases_lt k r.from) [
      | inl lt ↦ let turn : r.from ≤ f.done = subst (λ (a : Row (AnsweredInputs Answer)). a.from ≤ f.done) is
          (e.found.turn at r w) in omega arith
      | inr ge ↦ absurd (let d = deeper r.from k n o here i ge in omega arith)
    ];
    passes = λ row c o i l. elim (cases_lt c.0 at) [
      | inl lt ↦ subst (λ (a : Row (AnsweredInputs Answer)). fails claim a.label.inputs a.label.answer ≡ false) c.2
          (pass row c.0 lt)
      | inr ge ↦ absurd (let d = deeper r.from row.from n o here i (later row c.0 c.1 c.2 ge) in omega arith)
    ];
  } where
    later : (row : Row (AnsweredInputs Answer)) (k : ℕ) → k < length f.rows.items → get_or f.rows.items k row ≡ row
        → at ≤ k →
        r.from ≤ row.from
    later row k l s g = elim (cases_lt at k) [
      | inl lt ↦ subst (λ (a : Row (AnsweredInputs Answer)). a.from ≤ row.from)
          (get_or_default f.rows.items at row r w ∙ is)
          (subst (λ (a : Row (AnsweredInputs Answer)). (get_or f.rows.items at row).from ≤ a.from) s
          (e.found.tree.in_turn at k row lt l))
      | inr eq ↦
          let same : k ≡ at = omega arith in
          let one : row ≡ r = sym s ∙ (rw same (get_or_default f.rows.items at row r w) ∙ is) in
          rw one (omega arith)
    ]

  -- a claim fails by the first row by which it fails
  pub fails_by : (claim : Claim) → IsClaimToldBy claim watched → (at : ℕ) (r : Row (AnsweredInputs Answer))
      (word : List (AnsweredInputs Answer)) → at < length f.rows.items
      → ((d : Row (AnsweredInputs Answer)) (k : ℕ) → k < at
      → fails claim (get_or f.rows.items k d).label.inputs (get_or f.rows.items k d).label.answer ≡ false)
      → get_or f.rows.items at r ≡ r → fails claim r.label.inputs r.label.answer ≡ true
      → LedTo (DoesSo m watched) (record { state = Fresh }) f.nodes.items r word → FailsBy m claim word
  fails_by claim told at r word w pass is bad led = record {
    before = led.before;
    last = r.label;
    split = led.split;
    left = term_of_position m led.node.state;
    runs = path_runs m watched (record { state = Fresh }) led.node.state led.before led.path;
    lawful = lawful_of m watched led.node.state r.label row.after step;
    fails = fails_at m claim led.node.state r.label.inputs r.label.answer row.after
        (own m watched led.node.state r.label row.after step) bad;
    shortest = rw led.shortest (holds_for m watched f e claim told led.node.depth
        (cleared_before claim at r led.node w pass is led.from));
  } where
    row : IsRow (DoesSo m watched) f.nodes.items r
    row = subst (λ (a : Row (AnsweredInputs Answer)). IsRow (DoesSo m watched) f.nodes.items a) is
        (All-get_or (IsRow (DoesSo m watched) f.nodes.items) f.rows.items at r w e.found.tree.sound)

    step : DoesSo m watched led.node.state r.label row.after
    step = subst (λ (o : Node Position). DoesSo m watched o.state r.label row.after)
        (is_one f.nodes.items r.from row.before led.node row.from led.from) row.step

  -- some row
  abbrev nothing : Row (AnsweredInputs Answer)
  nothing = record { from = 0; label = record { inputs = 0; asked = 0; answer = Stuck 0 }; next = None }

  pub fails_first : (claim : Claim) → IsClaimToldBy claim watched → (at : ℕ) (word : List (AnsweredInputs Answer))
      → at < length f.rows.items
      → ((d : Row (AnsweredInputs Answer)) → fails claim (get_or f.rows.items at d).label.inputs
      (get_or f.rows.items at d).label.answer ≡ true)
      → ((d : Row (AnsweredInputs Answer)) (k : ℕ) → k < at
      → fails claim (get_or f.rows.items k d).label.inputs (get_or f.rows.items k d).label.answer ≡ false)
      → ((r : Row (AnsweredInputs Answer)) → LedTo (DoesSo m watched) (record { state = Fresh }) f.nodes.items
      (get_or f.rows.items at r) word)
      → FailsBy m claim word
  fails_first claim told at word w bad pass led = fails_by claim told at (get_or f.rows.items at nothing) word w pass
      (get_or_default f.rows.items at (get_or f.rows.items at nothing) nothing w) (bad nothing) (led nothing)

  -- ---- what is reached

  reached_upto : (b k : ℕ) (n : Node Position) → k < b → IsNodeAt f.nodes.items k n → IsReached m n.state
  reached_upto zero k n l here = absurd (omega arith)
  reached_upto (suc b) k n l here = elim (cases_eq k 0) [
    | inl z ↦
        let one : n ≡ e.begins.node = is_one f.nodes.items 0 n e.begins.node (rw z at here) e.begins.is in
        let fresh : n.state ≡ record { state = Fresh } = ap (λ (o : Node Position). o.state) one ∙ e.begins.state in
        subst (λ (x : Position). IsReached m x) (sym fresh) (record { is_state = tt; run = []; runs = refl })
    | inr d ↦ by (λ j o w i. reached_upto b j o w i) (e.found.tree.came k n (omega arith) here)
  ] where
    by : ((j : ℕ) (o : Node Position) → j < b → IsNodeAt f.nodes.items j o → IsReached m o.state)
        → IsReachedByRow f.nodes.items
        f.rows.items k n
        → IsReached m n.state
    by before came =
        let row : IsRow (DoesSo m watched) f.nodes.items came.row = subst
        (λ (a : Row (AnsweredInputs Answer)). IsRow (DoesSo m watched) f.nodes.items a)
        (came.by came.row) (All-get_or (IsRow (DoesSo m watched) f.nodes.items) f.rows.items n.by came.row came.within
        e.found.tree.sound) in
        let to : row.after ≡ Some n.state =
        leads_there (λ (x : Position). IsState m.kernel.root x.state) (DoesSo m watched)
        (λ (a b : AnsweredInputs Answer). a.inputs ≢ b.inputs)
        f.nodes.items _ k n came.row.next row.after row.leads came.to here in
        let step : DoesSo m watched row.before.state came.row.label (Some n.state) = rw to at row.step in
        let earlier = came.earlier in
        let old = before came.row.from row.before (omega arith) row.from in
        record {
          is_state = subst (λ (o : Node Position). IsState m.kernel.root o.state.state) (here.is n)
              (All-get_or (λ o. IsState m.kernel.root o.state.state) f.nodes.items k n here.within e.found.tree.states);
          run = old.run ++ shown came.row.label ∷ [];
          runs = runs_on m (start m) old.run (term_of_position m row.before.state) (shown came.row.label)
              (term_of_position m n.state)
              old.runs (lawful_of m watched row.before.state came.row.label (Some n.state) step)
              (goes_of m row.before.state n.state came.row.label.inputs came.row.label.answer
              (own m watched row.before.state came.row.label (Some n.state) step));
        }

  pub reached : (k : ℕ) (n : Node Position) → IsNodeAt f.nodes.items k n → IsReached m n.state
  reached k n here = reached_upto (suc k) k n (omega arith) here

  pub more_states : (most : ℕ) → most < length f.nodes.items → HasMoreStates m most
  more_states most l = record {
    positions = map (λ n. n.state) f.nodes.items;
    more = rw length-map l;
    distinct = pairs_mapped (λ x y. x ≢ y) (λ (n : Node Position). n.state) f.nodes.items e.begins.node
        e.found.tree.distinct;
    reached = All-map (IsReached m) (λ (n : Node Position). n.state) f.nodes.items
        (λ k d w. reached k (get_or f.nodes.items k d) (is_there f.nodes.items k d w));
  }

  trial : Row (AnsweredInputs Answer) → Trial
  trial r = record { position = (get_or f.nodes.items r.from e.begins.node).state; inputs = r.label.inputs }

  row_at : (k : ℕ) (d : Row (AnsweredInputs Answer)) → k < length f.rows.items → IsRow (DoesSo m watched) f.nodes.items
      (get_or f.rows.items k d)
  row_at k d w = All-get_or (IsRow (DoesSo m watched) f.nodes.items) f.rows.items k d w e.found.tree.sound

  differ : (a b : Row (AnsweredInputs Answer)) → IsRow (DoesSo m watched) f.nodes.items a
      → IsRow (DoesSo m watched) f.nodes.items b → a.from ≤ b.from
      → (a.from ≡ b.from → a.label.inputs ≢ b.label.inputs) → trial a ≢ trial b
  unfolding trial
  differ a b i j l apart same = elim (cases_lt a.from b.from) [
    | inl lt ↦ e.found.tree.distinct a.from b.from e.begins.node lt j.from.within (ap (λ (t : Trial). t.position) same)
    | inr ge ↦ apart (omega arith) (ap (λ (t : Trial). t.inputs) same)
  ]

  pub more_trials : (most : ℕ) → most < length f.rows.items → HasMoreTrials m most
  unfolding trial
  more_trials most l = record {
    trials = map trial f.rows.items;
    more = rw length-map l;
    distinct = pairs_mapped (λ x y. x ≢ y) trial f.rows.items nothing
        (λ i j d k w. differ (get_or f.rows.items i d) (get_or f.rows.items j d) (row_at i d (omega arith))
        (row_at j d w)
        (e.found.tree.in_turn i j d k w) (e.found.tree.differ i j d k w));
    reached = All-map (λ a. IsReached m a.position) trial f.rows.items
        (λ k d w. let row = row_at k d w in
        subst (λ (n : Node Position). IsReached m n.state) (sym (row.from.is e.begins.node))
        (reached _ row.before row.from));
    lawful = All-map (λ a. IsLawful m (bits a.inputs)) trial f.rows.items
        (λ k d w. let row = row_at k d w in
        lawful_of m watched row.before.state (get_or f.rows.items k d).label row.after row.step);
  }
