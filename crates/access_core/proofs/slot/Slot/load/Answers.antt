use Rattle.std.proofs.Common.{◌≡◌, refl, false}
use Rattle.refusal_rules.proofs.RuleLemmas.{refuse, pass}
use Rattle.reactor_core.specs.Meaning.{is_loaded}
use Rattle.access_core.proofs.Deciding.{refusing}
use Rattle.access_core.proofs.slot.Slot.load.Goals as goal

pub returns-in-Loaded-clause-step : goal.returns-in-Loaded-clause-step
returns-in-Loaded-clause-step c =
    let held = rw (← c.in-Loaded.ensures.value) at c.self.invariant in
    rw (← c.self.view_is, ← c.in-Loaded.ensures.value) (refuse _ (refl, held) refusing)

pub returns-in-Empty-clause-step : goal.returns-in-Empty-clause-step
returns-in-Empty-clause-step c =
    let held : is_loaded c.in-Empty.journal ≡ false = rw (← c.in-Empty.ensures.value) at c.self.invariant in
    rw (← c.self.view_is, ← c.in-Empty.ensures.value) (pass (λ runs. cc) c.load_module-reply.ensures.step)
