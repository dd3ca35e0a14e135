use Rattle.std.proofs.Common.{sym, subst, arith}
use Rattle.rbac_admin.specs.Room.{most_entries}
use Rattle.rbac_policy.specs.Opening.{opening_entries}
use Rattle.rbac_policy.proofs.OfSessions.EndingLemmas.{leaves_room}
use Rattle.rbac_policy.proofs.Growing.{opening_fits}
use Rattle.access_core.specs.Desk.{AreSlots}
use Rattle.access_core.proofs.Desks.{opening_slots}
use Rattle.access_core.proofs.single.Single.new.Goals as goal

pub invariant_of-result : goal.invariant_of-result
invariant_of-result c = (
  rw c.in_ok-entries.ensures c.opening-2.ensures.stands,
  subst AreSlots (sym c.make_slots.ensures) opening_slots,
  rw c.in_ok-entries.ensures (leaves_room _ opening_entries most_entries c.opening-2.ensures.stands (omega arith)),
  rw c.in_ok-entries.ensures opening_fits,
)
