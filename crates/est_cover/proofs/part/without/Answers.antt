use Rattle.est_cover.proofs.PartLemmas.{is_below, is_fewer}
use Rattle.est_cover.proofs.part.without.Goals as goal

pub without-requires : goal.without-requires
without-requires c = is_below c.args.unasked c.args.place c.ranges.unasked.fits c.requires

pub without-requires-2 : goal.without-requires-2
without-requires-2 c = is_below c.args.unasked c.args.place c.ranges.unasked.fits c.requires

pub returns-clause-fewer : goal.returns-clause-fewer
returns-clause-fewer c = is_fewer c.args.unasked c.without.result c.args.place c.requires c.without.ensures.same
    c.without.ensures.other
