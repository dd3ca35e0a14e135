use Rattle.std.proofs.Common.{◌≡◌, ◌∷◌, ◌++◌, [], ◌+◌, refl, subst, take, length, rules}
use Rattle.std.proofs.lemmas.List.{length-take-le, take_more}
use Rattle.est_modules.specs.FirstPlaces.{AreFirstPlaces}
use Rattle.est_link.proofs.local_names.places_of.Goals as goal

pub loop-place-init : goal.loop-place-init
loop-place-init c = c.in_ok-add.ensures [] c.new-places.ensures refl

pub loop-place-preserved : goal.loop-place-preserved
loop-place-preserved c =
    let first = c.args.names.now.first in
    let later = c.deref-name-items.result.now in
    let k = c.loop-place.place in
    let name = c.name-item.result in
    let next : first ∷ take k later ++ name ∷ [] ≡ first ∷ take (k + 1) later = search (rules, take_more) in
    let size : k + 1 ≡ length (first ∷ take k later) = search (rules, length-take-le) in
    subst (AreFirstPlaces c.add-in-loop-place.new.self) next
    (c.in_ok-add-2.ensures (first ∷ take k later) c.loop-place.invariant size)
