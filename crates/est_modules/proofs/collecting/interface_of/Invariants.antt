use Rattle.std.proofs.Common.{◌≡◌, take, map}
use Rattle.est_syntax.specs.Views.{declaration_view}
use Rattle.est_modules.specs.FirstPlaces.{AreFirstPlaces}
use Rattle.est_modules.specs.Modules.{interface_of}
use Rattle.est_modules.specs.declared.interface.Declared.{Declared}
use Rattle.est_modules.proofs.collecting.interface_of.Given as goal

abbrev pub invariant-loop-declaration : goal.invariant-loop-declaration
invariant-loop-declaration l =
    record {
      places : AreFirstPlaces l.places (map (λ (d : Declared). d.name) l.declared.items);
      declared : l.declared.items ≡ interface_of (map declaration_view (take l.declaration-index l.declarations));
    }
