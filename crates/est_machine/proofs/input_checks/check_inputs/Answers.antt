use Rattle.std.proofs.Common.{◌∙◌, sym, arith}
use Rattle.est_kernel.specs.Bits.{bits}
use Rattle.est_machine.proofs.Offers.{all_kept, are_inputs, left_over}
use Rattle.est_machine.proofs.input_checks.check_inputs.Goals as goal
use Rattle.est_machine.specs.Machines.{others, breaks}
use Rattle.est_relations.specs.Keeping.{keeps}

pub returns-then-others-ne0-clause-refused : goal.returns-then-others-ne0-clause-refused
returns-then-others-ne0-clause-refused c =
    others c.difference-others.result c.if-others-ne0.true
    (left_over c.args.inputs c.offerable.result c.difference-others.result _ c.offerable.ensures
    c.difference-others.ensures)

pub returns-in-Some-clause-refused : goal.returns-in-Some-clause-refused
returns-in-Some-clause-refused c =
    breaks c.in-Some.place
    (are_inputs c.args.inputs c.difference-others.result _
    (left_over c.args.inputs c.offerable.result c.difference-others.result _ c.offerable.ensures
    c.difference-others.ensures)
    (omega (arith, c.if-others-ne0.false)))
    (sym (rw c.as_slice.ensures.all at c.first_broken.ensures) ∙ c.in-Some.is)

pub returns-in-None-clause-taken : goal.returns-in-None-clause-taken
returns-in-None-clause-taken c = record {
  inputs = are_inputs c.args.inputs c.difference-others.result _
      (left_over c.args.inputs c.offerable.result c.difference-others.result _ c.offerable.ensures
      c.difference-others.ensures)
      (omega (arith, c.if-others-ne0.false));
  lawful = all_kept (keeps (bits c.args.inputs)) c.args.relations.now
      (sym (rw c.as_slice.ensures.all at c.first_broken.ensures) ∙ c.in-None.is);
}
