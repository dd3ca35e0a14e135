use Rattle.std.proofs.Common.{◌≡◌, ◌∙◌, true, false, List, subst, sym, inr}
use Rattle.std.proofs.lemmas.Bool.{false≢true}
use Rattle.est_kernel.specs.declared.statement.Statement.{Statement}
use Rattle.est_left.specs.Orders.{are_in_order}
use Rattle.est_meaning.specs.States.{state_term}
use Rattle.reactor_core.specs.declared.entry.SlotEntry.{SlotEntry}
use Rattle.reactor_core.specs.Left.{IsLeftOf}
use Rattle.audit_report.proofs.second_engine.leaves.Goals as goal

pub returns-then-not-is_in_order-clause-same : goal.returns-then-not-is_in_order-clause-same
returns-then-not-is_in_order-clause-same c = λ told.
    let k = c.state.result.0.now in
    let x = c.state.result.1.now in
    let unordered : are_in_order k.root 0 ≡ false = cc in
    inr (record {
      kernel = k;
      state = x;
      left = subst (λ (j : List SlotEntry). IsLeftOf j k x) c.in-Some.ensures c.state.ensures;
      same = λ ordered. absurd (false≢true (sym unordered ∙ ordered));
    })

pub returns-else-not-is_in_order-clause-same : goal.returns-else-not-is_in_order-clause-same
returns-else-not-is_in_order-clause-same c = λ told.
    let k = c.state.result.0.now in
    let x = c.state.result.1.now in
    inr (record {
      kernel = k;
      state = x;
      left = subst (λ (j : List SlotEntry). IsLeftOf j k x) c.in-Some.ensures c.state.ensures;
      same = λ ordered. subst (λ (s : Statement). state_term s c.args.next.now ≡ state_term s x)
          c.root-else-not-is_in_order.ensures (c.is_same_state.ensures.0 told);
    })

pub returns-else-not-is_in_order-clause-other : goal.returns-else-not-is_in_order-clause-other
returns-else-not-is_in_order-clause-other c = λ told.
    let k = c.state.result.0.now in
    let x = c.state.result.1.now in
    let in_order : are_in_order k.root 0 ≡ true = cc in
    record {
      kernel = k;
      state = x;
      left = subst (λ (j : List SlotEntry). IsLeftOf j k x) c.in-Some.ensures c.state.ensures;
      ordered = in_order;
      other = λ same. false≢true (sym told ∙ c.is_same_state.ensures.1
          (subst (λ (s : Statement). state_term s c.args.next.now ≡ state_term s x)
          (sym c.root-else-not-is_in_order.ensures) same));
    }
