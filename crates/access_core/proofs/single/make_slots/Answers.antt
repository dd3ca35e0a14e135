use Rattle.std.proofs.Common.{rules}
use Rattle.rbac_policy.specs.declared.objects.TheConstants.{SLOTS}
use Rattle.access_core.specs.Desk.{empty_slot}
use Rattle.access_core.proofs.Places.{by_places}
use Rattle.access_core.proofs.single.make_slots.Goals as goal

pub returns : goal.returns
returns c =
    let made = c.from_fn.ensures.items in
    by_places empty_slot c.from_fn.result 0 SLOTS made.long (λ i other below.
    let call = made.at i other below in
    search (rules, call.2, below))
