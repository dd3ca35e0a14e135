use Rattle.access_core.proofs.Legality.{still_legal, step_legal, versions_rise, entry_allowed}
use Rattle.access_core.proofs.laws.journals_are_legal.Goals as goal

pub returns : goal.returns
returns c = record {
  grows = still_legal;
  steps = λ list slot session command before reply after legal. step_legal list slot before legal session command reply
      after;
  rises = λ list slot early late journal x y legal. versions_rise list slot journal legal early late x y;
  allowed = λ list slot at journal x legal. entry_allowed list slot journal legal at x;
}
