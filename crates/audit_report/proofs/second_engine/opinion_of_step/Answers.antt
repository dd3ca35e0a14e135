use Rattle.std.proofs.Common.{◌≡◌, ℕ, true, subst, arith}
use Rattle.est_left.specs.Orders.{are_in_order}
use Rattle.est_meaning.specs.States.{state_term}
use Rattle.reactor_core.specs.Instants.{IsOutcome}
use Rattle.audit_report.proofs.SecondEngine.{other_outputs, none_at_all}
use Rattle.audit_report.proofs.second_engine.opinion_of_step.Goals as goal

pub returns-then-nests_locals : goal.returns-then-nests_locals
returns-then-nests_locals g c = record {
  kernel = c.state.result.0.now;
  is = c.state.ensures.kernel;
  passed = rw c.root.ensures at c.nests_locals.ensures.0 c.if-nests_locals.true;
}

pub returns-then-outcome-outputs : goal.returns-then-outcome-outputs
returns-then-outcome-outputs g c = λ next other.
    other_outputs c.one_module.ensures c.args.reactor.now c.in-Ok.outcome.outputs c.args.outputs
    (state_term c.state.result.0.now.root c.in-Ok.outcome.next) c.in-Ok.ensures.ok
    (λ same. omega (arith, same, c.if-outcome-outputs.true)) next other

pub returns-then-is_in_order : goal.returns-then-is_in_order
returns-then-is_in_order g c =
    let k = c.state.result.0.now in
    let in_order : are_in_order k.root 0 ≡ true = cc in
    let same : c.in-Ok.outcome.outputs ≡ c.args.outputs = omega arith in
    record {
      kernel = k;
      is = c.state.ensures.kernel;
      ordered = in_order;
      outcome = subst
          (λ (n : ℕ). IsOutcome c.args.reactor.now n (state_term k.root c.in-Ok.outcome.next)) same
          c.in-Ok.ensures.ok;
    }

pub returns-in-Err : goal.returns-in-Err
returns-in-Err g c = λ next other.
    none_at_all c.one_module.ensures c.args.reactor.now c.in-Err.field-0 c.args.outputs c.in-Err.ensures.err next other
