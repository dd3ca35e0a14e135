use Rattle.std.proofs.Common.{◌&&◌, List, not, map, take}
use Rattle.est_syntax.specs.Views.{renaming_view}
use Rattle.est_modules.specs.Modules.{program_of}
use Rattle.est_modules.specs.NamedNumbers.{Adds, Tells}
use Rattle.est_modules.specs.NameTables.{IsTable}
use Rattle.est_modules.specs.Occurrences.{Binder}
use Rattle.est_modules.specs.Visible.{is_local}
use Rattle.est_checks.specs.Emissions.{emitted_of}
use Rattle.est_checks.specs.Inner.Noted.{emits_renamed}
use Rattle.est_checks.proofs.module_emissions.note_renamed.Given as goal

abbrev pub invariant-loop-renaming : goal.invariant-loop-renaming
invariant-loop-renaming l = (bs : List Binder) → IsTable l.kept.table.now
    → Tells l.kept.table.now (is_local bs) l.kept.hidden → Adds l.kept.table.now
    (λ s. not (is_local bs s) && emits_renamed (emitted_of l.table) (program_of l.run) (map renaming_view l.renamings)
    (map renaming_view (take l.renaming-index l.renamings)) s) l.fn.noted l.noted
