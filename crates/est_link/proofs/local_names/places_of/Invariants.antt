use Rattle.std.proofs.Common.{◌∷◌, take}
use Rattle.est_modules.specs.FirstPlaces.{AreFirstPlaces}
use Rattle.est_link.proofs.local_names.places_of.Given as goal

abbrev pub invariant-loop-place : goal.invariant-loop-place
invariant-loop-place l = AreFirstPlaces l.places (l.names.first ∷ take l.place l.name-items)
