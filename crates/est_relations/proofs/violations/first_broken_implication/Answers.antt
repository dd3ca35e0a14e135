use Rattle.est_relations.proofs.FirstBroken.{first_broken_implication}
use Rattle.est_relations.proofs.violations.first_broken_implication.Goals as goal

pub returns-in-Some : goal.returns-in-Some
returns-in-Some c = first_broken_implication c.args.relations.now c.args.inputs c.loop-index.index c.in-Some.missing
    c.index-relations-index.result c.loop-index-test.true c.index-relations-index.is c.loop-index.invariant
    c.in-Some.ensures
