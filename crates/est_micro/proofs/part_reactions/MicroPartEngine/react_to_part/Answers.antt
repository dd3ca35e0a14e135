use Rattle.est_kernel.specs.Bits.{bits}
use Rattle.est_micro.proofs.PartReactions.{inputs_alone, left_open, named_unasked, settled_for}
use Rattle.est_micro.proofs.Settles.{full_settled}
use Rattle.est_micro.proofs.part_reactions.MicroPartEngine.react_to_part.Goals as goal

pub decide_cells-run_end-requires-clause-apart : goal.decide_cells-run_end-requires-clause-apart
decide_cells-run_end-requires-clause-apart c =
    inputs_alone c.args.kernel.now.interface _ (bits c.args.asked) c.unasked_inputs-unasked.ensures c.requires.asked

pub returns-in-Some-clause-ok : goal.returns-in-Some-clause-ok
returns-in-Some-clause-ok c = λ others a.
    c.in-Some.ensures.some.reaction others
    (full_settled _ c.args.kernel.now c.args.state.now (bits others.signals) _ _
    (settled_for _ (bits c.args.asked) c.args.kernel.now c.args.state.now c.args.inputs.now _ _
    c.unasked_inputs-unasked.ensures c.requires.inputs c.decide_cells-run_end.ensures.settled others a)
    c.in-Some.ensures.all)

pub returns-in-Some-clause-values : goal.returns-in-Some-clause-values
returns-in-Some-clause-values c = λ others a.
    c.in-Some.ensures.some.values others
    (full_settled _ c.args.kernel.now c.args.state.now (bits others.signals) _ _
    (settled_for _ (bits c.args.asked) c.args.kernel.now c.args.state.now c.args.inputs.now _ _
    c.unasked_inputs-unasked.ensures c.requires.inputs c.decide_cells-run_end.ensures.settled others a)
    c.in-Some.ensures.all)

pub returns-in-Some-clause-sound : goal.returns-in-Some-clause-sound
returns-in-Some-clause-sound c = λ others a.
    (settled_for _ (bits c.args.asked) c.args.kernel.now c.args.state.now c.args.inputs.now _ _
    c.unasked_inputs-unasked.ensures c.requires.inputs c.decide_cells-run_end.ensures.settled others a).sound

pub returns-in-None-clause-sound : goal.returns-in-None-clause-sound
returns-in-None-clause-sound c = λ others a.
    (settled_for _ (bits c.args.asked) c.args.kernel.now c.args.state.now c.args.inputs.now _ _
    c.unasked_inputs-unasked.ensures c.requires.inputs c.decide_cells-run_end.ensures.settled others a).sound

pub returns-in-None-clause-open : goal.returns-in-None-clause-open
returns-in-None-clause-open c =
    left_open _ (bits c.args.asked) c.args.kernel.now c.args.state.now (bits c.args.inputs.now.signals) _
    c.decide_cells-run_end.result _ c.unasked_inputs-unasked.ensures c.requires.state
    c.decide_cells-run_end.ensures.settled
    c.in-None.ensures.none c.first_waited.ensures

pub returns-in-None-clause-unasked : goal.returns-in-None-clause-unasked
returns-in-None-clause-unasked c =
    named_unasked c.args.kernel.now c.args.state.now (bits c.args.asked) (bits c.args.inputs.now.signals)
    c.decide_cells-run_end.new.net.cells.items _
    (left_open _ (bits c.args.asked) c.args.kernel.now c.args.state.now (bits c.args.inputs.now.signals) _
    c.decide_cells-run_end.result _ c.unasked_inputs-unasked.ensures c.requires.state
    c.decide_cells-run_end.ensures.settled
    c.in-None.ensures.none c.first_waited.ensures)
