use Rattle.std.proofs.Common.{take}
use Rattle.rbac_policy.specs.StandsFor.{StandsFor}
use Rattle.rbac_policy.proofs.Growing.{stands_front}
use Rattle.access_core.proofs.single.Single.slot_at.Goals as goal

pub returns-clause-step : goal.returns-clause-step
returns-clause-step c =
    let stands : StandsFor c.policy_at-policy.result (take c.args.version c.self.inside.entries) =
    rw (c.policy_at-policy.ensures, c.entries.ensures)
    (stands_front c.self.inside.entries c.self.invariant.3 c.args.version) in
    rw (← c.self.view_is) (c.answer_slot.ensures.step (take c.args.version c.self.inside.entries) stands)
