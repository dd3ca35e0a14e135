use Rattle.est_meaning.proofs.DecidedByMust.{gives_must, gives_can, rule_has_code, must_gives, must_silent, silent_none}
use Rattle.est_meaning.proofs.laws.decided_by_must.Goals as goal

pub returns : goal.returns
returns c = record {
  reacts = λ t e safe k. (rule_has_code t e k, must_gives t e k safe);
  none = λ t e safe. (must_silent t e safe, silent_none t e);
  must_is = gives_must;
  can_is = gives_can;
}
