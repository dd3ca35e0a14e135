use Rattle.std.proofs.Common.{◌∙◌, refl}
use Rattle.wire_reader.proofs.Running.{reach_on, served, reach_first}
use Rattle.wire_reader.proofs.serving.answer_all.Goals as goal

pub loop-why-init : goal.loop-why-init
loop-why-init g c = record {
  sound = c.requires;
  reaches = reach_first g.A.Answerer.tells _ _ _;
  unfailed_reader = refl;
  unfailed_writer = refl;
}

pub returns-in-Err-clause-serves : goal.returns-in-Err-clause-serves
returns-in-Err-clause-serves g c =
    served _ _ _ _ _ _ _ _ _ _ _ _ _ c.loop-why.invariant.reaches (rw c.in-Err.is at c.answer_next.ensures.turns)

pub loop-why-preserved : goal.loop-why-preserved
loop-why-preserved g c = record {
  sound = c.in_default.ensures.sound;
  reaches = reach_on _ _ _ _ _ _ _ _ _ _ c.loop-why.invariant.reaches
      (rw c.in_default.is at c.answer_next.ensures.turns);
  unfailed_reader = c.in_default.ensures.unfailed.0 ∙ c.loop-why.invariant.unfailed_reader;
  unfailed_writer = c.in_default.ensures.unfailed.1 ∙ c.loop-why.invariant.unfailed_writer;
}
