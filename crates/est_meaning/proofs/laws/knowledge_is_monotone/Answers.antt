use Rattle.est_meaning.proofs.KnowledgeIsMonotone.{monotone, must_can}
use Rattle.est_meaning.proofs.laws.knowledge_is_monotone.Goals as goal

pub returns : goal.returns
returns c = record {
  must_grows = λ t. (monotone t).must_up;
  can_shrinks = λ t. (monotone t).can_down;
  must_in_can = must_can;
  sure_in_maybe = λ t. (monotone t).eased;
}
