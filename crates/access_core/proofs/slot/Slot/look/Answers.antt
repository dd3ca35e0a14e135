use Rattle.refusal_rules.proofs.RuleLemmas.{pass}
use Rattle.access_core.proofs.slot.Slot.look.Goals as goal

pub returns-in-Loaded : goal.returns-in-Loaded
returns-in-Loaded c = λ entries stands.
    let held = rw c.in-Loaded.is at c.self.invariant in
    rw (← c.self.view_is, c.in-Loaded.is) (pass held (c.show_instant.ensures entries stands))
