use Rattle.std.proofs.Common.{◌≡◌, ◌||◌, ℕ, List, take}
use Rattle.est_modules.specs.NameTables.{IsTable, is_numbered}
use Rattle.est_modules.specs.Visible.{stands_in}
use Rattle.est_modules.proofs.names.table.add_names.Given as goal

abbrev pub invariant-loop-name : goal.invariant-loop-name
invariant-loop-name l =
    record {
      table : IsTable l.table;
      has : (s : List ℕ) → is_numbered l.table s
          ≡ (is_numbered l.fn.table s || stands_in (take l.name-index l.names) s);
    }
