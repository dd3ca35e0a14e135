use Rattle.std.proofs.Common.{◌≡◌, ◌||◌, ℕ, List, take}
use Rattle.est_modules.specs.Modules.{is_declared}
use Rattle.est_modules.specs.NameTables.{IsTable, is_numbered}
use Rattle.est_modules.proofs.names.table.add_interface.Given as goal

abbrev pub invariant-loop-declared : goal.invariant-loop-declared
invariant-loop-declared l =
    record {
      table : IsTable l.table;
      has : (s : List ℕ) → is_numbered l.table s
          ≡ (is_numbered l.fn.table s || is_declared (take l.declared-index l.interface) s);
    }
