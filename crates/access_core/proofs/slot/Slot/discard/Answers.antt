use Rattle.refusal_rules.proofs.RuleLemmas.{pass}
use Rattle.access_core.proofs.slot.Slot.discard.Goals as goal

pub returns-in-Loaded-clause-step : goal.returns-in-Loaded-clause-step
returns-in-Loaded-clause-step c =
    let held = rw c.in-Loaded.is at c.self.invariant in
    rw (← c.self.view_is, c.in-Loaded.is) (pass held c.discard_inputs.ensures.step)
