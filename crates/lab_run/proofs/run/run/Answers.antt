use Rattle.std.proofs.Common.{inl, inr}
use Rattle.lab_run.proofs.run.run.Goals as goal

pub returns-in-Ok-Prove : goal.returns-in-Ok-Prove
returns-in-Ok-Prove g c = inr (inl (c.in-Ok-Prove.proof, c.prove.ensures))
