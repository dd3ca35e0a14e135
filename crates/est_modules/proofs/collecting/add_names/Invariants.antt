use Rattle.std.proofs.Common.{◌≡◌, ◌++◌, map, take}
use Rattle.est_modules.specs.FirstPlaces.{AreFirstPlaces}
use Rattle.est_modules.specs.Modules.{with_kind}
use Rattle.est_modules.specs.declared.interface.Declared.{Declared}
use Rattle.est_modules.proofs.collecting.add_names.Given as goal

abbrev pub invariant-loop-name : goal.invariant-loop-name
invariant-loop-name l =
    record {
      places : AreFirstPlaces l.places (map (λ (d : Declared). d.name) l.declared.items);
      declared : l.declared.items ≡ l.fn.declared.items
          ++ with_kind l.kind (record { first = l.names.first; later = take l.name-index l.name-items });
    }
