use Rattle.refusal_rules.proofs.RuleLemmas.{pass}
use Rattle.access_core.proofs.slot.Slot.unload.Goals as goal

pub returns-in-Loaded-clause-step : goal.returns-in-Loaded-clause-step
returns-in-Loaded-clause-step c =
    let held = rw (← c.in-Loaded.ensures.value) at c.self.invariant in
    rw (← c.self.view_is, ← c.in-Loaded.ensures.value) (pass held c.unload_module-reply.ensures.step)
