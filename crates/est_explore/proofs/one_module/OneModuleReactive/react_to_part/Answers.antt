use Rattle.est_explore.proofs.PartLemmas.{part_answers, part_state}
use Rattle.est_explore.proofs.one_module.OneModuleReactive.react_to_part.Goals as goal

pub returns-in-Ok-clause-state : goal.returns-in-Ok-clause-state
returns-in-Ok-clause-state g c = part_state c.args.self.now.kernel.now c.args.position.now c.args.asked c.args.inputs
    c.in-Ok.outcome c.in-Ok.ensures.ok c.requires.inputs

pub returns-in-Ok-clause-answer : goal.returns-in-Ok-clause-answer
returns-in-Ok-clause-answer g c = part_answers c.args.self.now.kernel.now c.args.position.now c.args.asked
    c.args.inputs c.in-Ok.outcome c.in-Ok.ensures.ok
