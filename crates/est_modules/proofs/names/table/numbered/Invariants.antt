use Rattle.std.proofs.Common.{◌≡◌, ◌||◌, ℕ, List, map, take}
use Rattle.std.specs.List.{list_any}
use Rattle.est_modules.specs.Modules.{Program, is_declared, program_of}
use Rattle.est_modules.specs.NameTables.{IsTable, is_numbered}
use Rattle.est_modules.proofs.names.table.numbered.Given as goal

abbrev pub invariant-loop-home : goal.invariant-loop-home
invariant-loop-home l =
    record {
      table : IsTable l.table;
      has : (s : List ℕ) → is_numbered l.table s
          ≡ (is_numbered l.initial.table s || list_any (λ (p : Program). is_declared p.interface s)
          (map program_of (take l.home-index l.home-items)));
    }
