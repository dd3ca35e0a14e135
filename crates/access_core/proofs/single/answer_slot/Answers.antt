use Rattle.std.proofs.Common.{◌∙◌, ◌<◌}
use Rattle.rbac_policy.specs.declared.objects.TheConstants.{SLOTS}
use Rattle.access_core.proofs.Desks.{slots_with, number_at, desk_step}
use Rattle.access_core.proofs.single.answer_slot.Goals as goal

pub returns-clause-slots : goal.returns-clause-slots
returns-clause-slots c =
    let below : c.in-Some.place < SLOTS = rw c.in-Some.ensures.0 c.in-Some.ensures.1 in
    slots_with c.args.slots.now c.in-Some.place c.decide_slot.new.slot c.requires below
    (c.decide_slot.ensures.number ∙ number_at c.args.slots.now c.in-Some.place c.index-slots-place.result c.requires
    below)

pub returns-clause-step : goal.returns-clause-step
returns-clause-step c = λ entries stands.
    let below : c.in-Some.place < SLOTS = rw c.in-Some.ensures.0 c.in-Some.ensures.1 in
    rw (← c.in-Some.ensures.0) (desk_step entries c.args.slots.now c.in-Some.place c.args.session c.args.command
    c.index-slots-place.result c.decide_slot.new.slot c.decide_slot.result c.requires below
    ((c.lives.ensures entries stands).0 c.if-not-lives.false)
    c.decide_slot.ensures.number (c.decide_slot.ensures.step entries stands))
