use Rattle.std.proofs.Common.{◌≡◌, ℕ, List, [], map, take, drop}
use Rattle.est_modules.specs.Modules.{program_of}
use Rattle.est_modules.specs.NameSets.{has}
use Rattle.est_modules.specs.Visible.{stands_in}
use Rattle.est_checks.specs.Duplicates.{duplicate_after}
use Rattle.est_modules.specs.declared.library_modules.LibraryModule.{LibraryModule}
use Rattle.est_checks.proofs.duplicates.first_duplicate.Given as goal

abbrev pub invariant-loop-index : goal.invariant-loop-index
invariant-loop-index l =
    let name = λ (h : LibraryModule). h.name in
    record {
      found : duplicate_after [] (map program_of l.all) ≡ duplicate_after (map name (take l.index l.all))
          (map program_of (drop l.index l.all));
      met : (s : List ℕ) → has l.met s ≡ stands_in (map name (take l.index l.all)) s;
    }
