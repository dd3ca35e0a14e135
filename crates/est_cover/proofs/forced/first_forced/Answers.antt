use Rattle.est_cover.proofs.ForcedLemmas.{forced_of_all}
use Rattle.est_cover.proofs.forced.first_forced.Goals as goal

pub returns-in-Some : goal.returns-in-Some
returns-in-Some c = forced_of_all c.in-Some.forced c.args.relations.now c.loop-relation.relation-index
    c.relation-item.result c.args.part.unasked c.args.part.inputs c.loop-relation-test.true c.relation-item.is
    c.in-Some.ensures
