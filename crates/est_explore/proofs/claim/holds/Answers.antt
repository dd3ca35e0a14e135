use Rattle.std.proofs.Common.{inl, inr}
use Rattle.est_explore.proofs.TestLemmas.{holds_is}
use Rattle.est_explore.proofs.claim.holds.Goals as goal

pub returns-in-Present : goal.returns-in-Present
returns-in-Present c = holds_is c.args.test.now c.args.present _ _ c.answer_to.ensures c.in-Present.is

pub returns-in-Absent : goal.returns-in-Absent
returns-in-Absent c = elim c.in-Absent.is [
  | inl a ↦ holds_is c.args.test.now c.args.present _ _ c.answer_to.ensures a
  | inr u ↦ holds_is c.args.test.now c.args.present _ _ c.answer_to.ensures u
]
