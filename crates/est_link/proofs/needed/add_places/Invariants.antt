use Rattle.std.proofs.Common.{◌≡◌, take}
use Rattle.est_link.specs.Inner.Needs.{with_places}
use Rattle.est_link.proofs.needed.add_places.Given as goal

abbrev pub invariant-loop-place : goal.invariant-loop-place
invariant-loop-place l = l.set.items ≡ with_places l.fn.set.items (take l.place-index l.places)
