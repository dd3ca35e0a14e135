-- What is known of the sets of names for the check of names that aren't visible (this project's own form).
use Rattle.std.specs.Prelude.{List, ◌||◌, map}
use Rattle.est_modules.specs.Modules.{is_declared, program_of}
use Rattle.est_modules.specs.NamedNumbers.{Tells}
use Rattle.est_modules.specs.OpenNames.{AreKept}
use Rattle.est_modules.specs.Visible.{is_tick}
use Rattle.est_modules.specs.declared.names.kept.Kept.{Kept}
use Rattle.est_modules.specs.declared.names.table.NameTable.{NameTable}
use Rattle.est_checks.specs.Inner.InterfaceNames.{names_of}
use Rattle.est_checks.specs.declared.unknown_names.UnknownName.{UnknownName}

-- the kept names of each module are those of its interface, and the set of the check has the names that its module
-- declares, and `tick`
pub record LooksFor (c : UnknownName) (t : NameTable) (ks : List Kept) : Type 0 where
  pub kept : AreKept t (names_of (map program_of c.modules.now)) ks
  pub own : Tells t (λ s. is_declared (program_of c.home.now).interface s || is_tick s) c.own.now
