-- What a search has found, as a closed table.
use Rattle.std.proofs.Common.{◌≡◌, ◌∙◌, ℕ, ◌≤◌, Bool, List, [], ◌∷◌, length, Option}
use Rattle.std.proofs.Common.{sym, refl, ap, subst, arith}
use Rattle.std.specs.List.{Contains}
use Rattle.std.proofs.lemmas.List.Elements.{All-contains}
use Rattle.est_kernel.specs.Term.{Term}
use Rattle.est_explore.specs.Inner.Answers.{AnswersSo}
use Rattle.est_explore.specs.Explored.{IsExplored}
use Rattle.est_cover.specs.InputSets.{InputSet}
use Rattle.est_explore.specs.Runs.{Module, Instant, Runs, start}
use Rattle.est_explore.specs.Tables.{StandsFor, IsRowOf, reacts, is_stuck, IsClosedTable}
use Rattle.est_cover.specs.declared.answered.AnsweredInputs.{AnsweredInputs}
use Rattle.est_explore.specs.declared.one_module.Answer.{Answer}
use Rattle.est_explore.specs.declared.one_module.Answer.TheVariants.{Reaction, Stuck}
use Rattle.est_explore.specs.declared.one_module.Position.{Position}
use Rattle.state_search.specs.Table.{IsNodeAt, Leads, nowhere, there, IsRow}
use Rattle.state_search.specs.declared.found.Found.{Found}
use Rattle.state_search.specs.declared.found.Node.{Node}
use Rattle.state_search.specs.declared.found.Row.{Row}
use Rattle.state_search.proofs.Nodes.{is_one}
use Rattle.est_explore.proofs.JudgeLemmas.{reached as is_reached}
use Rattle.est_explore.proofs.RunLemmas.{term_of_position, DoesSo, row_for, follows}

module _ (m : Module) (watched : ℕ → Bool) (f : Found Position (AnsweredInputs Answer)) (e : IsExplored m watched f)
    (all : length f.nodes.items ≤ f.done) where
  -- every run leads to a node
  leads_to : (k : ℕ) (n : Node Position) → IsNodeAt f.nodes.items k n → (run : List Instant) (t : Term)
      → Runs m (term_of_position m n.state) run t → (place : ℕ) × StandsFor m f.nodes.items place t
  leads_to k n here [] t run = (k, record { node = n; is = here; term = run })
  leads_to k n here (i ∷ run) t runs =
      let r = row_for m watched f e k n i.inputs here (let w = here.within in omega arith) runs.1 in
      let s = follows m watched f e k n i.inputs r i.outputs runs.0 runs.2 in
      leads_to s.place s.node s.here run t (subst (λ (v : Term). Runs m v run t) (sym s.term) runs.3)

  -- what a row says
  row_of : (x : Position) (most : ℕ) (inputs : InputSet) (answer : Answer) (place : Option ℕ)
      (after : Option Position) → Leads f.nodes.items most place after → AnswersSo m.kernel x inputs answer after
      → IsRowOf m f.nodes.items (term_of_position m x) inputs answer place
  row_of x most inputs (Reaction o) place after nowhere a = absurd a
  row_of x most inputs (Stuck u) place after (there p n here few) a = absurd a
  row_of x most inputs (Stuck u) place after nowhere a = is_stuck u a.cannot
  row_of x most inputs (Reaction o) place after (there p n here few) a =
      reacts o p (term_of_position m n.state) a.reacts (record { node = n; is = here; term = refl })

  first_term : term_of_position m e.begins.node.state ≡ start m
  first_term = ap (λ (x : Position). term_of_position m x) e.begins.state

  sound : (row : Row (AnsweredInputs Answer)) → Contains f.rows.items row → IsRow (DoesSo m watched) f.nodes.items row
  sound row c = All-contains (IsRow (DoesSo m watched) f.nodes.items) f.rows.items row e.found.tree.sound c

  pub closed_table : IsClosedTable m f
  closed_table = record {
    begins = record { node = e.begins.node; is = e.begins.is; term = first_term };
    reached = λ run t runs. leads_to 0 e.begins.node e.begins.is run t
        (subst (λ (v : Term). Runs m v run t) (sym first_term) runs);
    only = λ place n here. is_reached m watched f e place n here;
    complete = λ place t s inputs lawful.
        let r = row_for m watched f e place s.node inputs s.is (let w = s.is.within in omega arith) lawful in
        record { row = r.row; listed = r.listed; from = r.from; is = r.is };
    lawful = λ row c. let is = sound row c in
        record { offered = is.step.lawful.offered; kept = is.step.lawful.kept };
    right = λ row c t s inputs lawful agrees.
        let is = sound row c in
        let one : is.before ≡ s.node = is_one f.nodes.items row.from is.before s.node is.from s.is in
        subst (λ (u : Term). IsRowOf m f.nodes.items u inputs row.label.answer row.next)
        (ap (λ (n : Node Position). term_of_position m n.state) one ∙ s.term)
        (row_of is.before.state _ inputs row.label.answer row.next is.after is.leads
        (is.step.answer inputs lawful.offered agrees));
  }
