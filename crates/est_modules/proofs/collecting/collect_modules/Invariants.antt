use Rattle.std.proofs.Common.{◌≡◌, ◌∷◌, take, map}
use Rattle.est_syntax.specs.Views.{module_view}
use Rattle.est_modules.specs.FirstPlaces.{AreFirstPlaces}
use Rattle.est_modules.specs.Modules.{program_of, module_program}
use Rattle.est_modules.specs.declared.library_modules.LibraryModule.{LibraryModule}
use Rattle.est_modules.proofs.collecting.collect_modules.Given as goal

abbrev pub invariant-loop-later : goal.invariant-loop-later
invariant-loop-later l =
    record {
      places : AreFirstPlaces l.places (map (λ (h : LibraryModule). h.name) l.modules.items);
      modules : map program_of l.modules.items ≡ module_program (module_view l.library.first)
          ∷ map (λ m. module_program (module_view m)) (take l.later-index l.later-items);
    }
